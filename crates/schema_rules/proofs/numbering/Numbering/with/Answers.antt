use Rattle.std.proofs.Common.{◌≡◌, false, sym, ◌∙◌, subst, length, arith}
use Rattle.schema_definitions.specs.Names.{has}
use Rattle.schema_rules.proofs.Numbered.{numbered_made}
use Rattle.schema_rules.proofs.numbering.Numbering.with.Goals as goal

pub invariant_of-result : goal.invariant_of-result
invariant_of-result c =
    let absent : has c.args.self c.args.name.now ≡ false = sym c.place_of.ensures.there ∙ sym c.is_some.ensures ∙ c.if-is_some.false in
    let count : c.len.result ≡ length c.self.inside.names.items = omega (arith, c.len.ensures) in
    numbered_made c.self.inside.names.items c.push.new.self.items c.self.inside.places c.insert.new.self c.args.name.now c.in_ok-copy.field-0
    c.in_ok-copy-2.field-0 c.len.result c.self.invariant (subst (λ names. has names c.args.name.now ≡ false) (sym c.self.view_is) absent)
    c.in_ok-copy.ensures c.in_ok-copy-2.ensures count c.in_ok-insert.ensures.updates c.in_ok-push.ensures.items
