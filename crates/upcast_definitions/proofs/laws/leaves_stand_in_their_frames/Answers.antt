use Rattle.upcast_definitions.proofs.Runs.{leaves-standing}
use Rattle.upcast_definitions.proofs.laws.leaves_stand_in_their_frames.Goals as goal

pub returns : goal.returns
returns c = leaves-standing
