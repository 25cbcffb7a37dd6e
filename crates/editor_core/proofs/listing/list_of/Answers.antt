use Rattle.schema_definitions.specs.Allowed.{inline_objects}
use Rattle.program_definitions.specs.Converters.{all_added}
use Rattle.editor_core.specs.HandedIn.{named_by}
use Rattle.editor_core.proofs.Lists.{made-is}
use Rattle.editor_core.proofs.listing.list_of.Goals as goal

pub returns : goal.returns
returns g c =
    made-is (λ b. (goal.Converter-dyn g (b.vtable, b.value)).gives b.value) c.new-list.result c.with_plans.result
    c.in_ok-objects.objects.items (inline_objects c.args.schema.now) c.args.indexed.items _
    (λ made. all_added (named_by (λ b. (goal.Converter-dyn g (b.vtable, b.value)).gives b.value) c.args.converters.items) made c.args.plans.items)
    c.in_ok-objects.ensures c.new-list.ensures c.with_plans.ensures.converters c.with_plans.ensures.rest
