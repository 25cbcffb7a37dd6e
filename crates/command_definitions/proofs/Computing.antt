-- One name to unfold where a row asks a schema that is written out.
use Rattle.schema_definitions.specs.Allowed.{check_child, child_answer, check_attribute, attribute_answer}
use Rattle.schema_definitions.specs.Rules.{children_of, keys_of, items_with}
use Rattle.schema_definitions.specs.Reachable.{reachable}
use Rattle.schema_definitions.specs.Compiled.{predefined}

-- `unfolding schema_tests` lets `refl` compute what a schema allows, and what its items are
unfoldable pub schema_tests : Unit {0}
unfolding check_child child_answer check_attribute attribute_answer children_of keys_of items_with reachable predefined
schema_tests = tt
