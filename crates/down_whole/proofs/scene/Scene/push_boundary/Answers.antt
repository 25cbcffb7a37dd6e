use Rattle.down_whole.specs.Scenes.{scene_with}
use Rattle.down_whole.proofs.Boundary.{boundary_written}
use Rattle.down_whole.proofs.scene.Scene.push_boundary.Goals as goal

pub returns-clause-written : goal.returns-clause-written
returns-clause-written c = λ conversion numbers leaves.
    boundary_written (scene_with conversion c.args.self.now numbers) c.args.position.now _ _ _ _ _ leaves c.in_ok-push_ends.ensures.written
    c.in_ok-push_starts.ensures.written c.in_ok-push_caret.ensures.written
