-- A code for views.
use Rattle.std.specs.Prelude.{ℕ, List, refl}
use Rattle.std.specs.Coded.{Coded, code_by, coded×, coded_ℕ}
use Rattle.view_definitions.specs.Node.{ViewNode}
use Rattle.view_definitions.specs.NodeCode.{coded_nodes}
use Rattle.view_tree.specs.Changes.{View}

-- by their nodes and how many numbers were drawn
abbrev pub coded_view : Coded View
coded_view = code_by (List ViewNode × ℕ) (coded× coded_nodes coded_ℕ) (λ view. (view.nodes, view.drawn))
    (λ parts. record { nodes = parts.0; drawn = parts.1 }) (λ _. refl)
