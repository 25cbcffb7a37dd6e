use Rattle.std.proofs.Common.{Some, sym, ap, ◌∙◌, option_map}
use Rattle.editor_core.specs.HandedIn.{place_from}
use Rattle.editor_core.proofs.Taken.{found, absent}
use Rattle.editor_core.proofs.naming.take_named.Goals as goal

pub returns-in-Some-clause-object : goal.returns-in-Some-clause-object
returns-in-Some-clause-object g c =
    let place = sym c.in-Some.is ∙ c.place_of.ensures.place ∙ ap (place_from 0 c.args.name.now) c.as_slice.ensures.value in
    ap (λ taken. Some taken.object) c.remove.ensures.value
    ∙ ap (option_map (λ named. named.object)) (found c.args.name.now c.args.objects.now.items c.in-Some.place c.remove.result place).0

pub returns-in-Some-clause-rest : goal.returns-in-Some-clause-rest
returns-in-Some-clause-rest g c =
    let place = sym c.in-Some.is ∙ c.place_of.ensures.place ∙ ap (place_from 0 c.args.name.now) c.as_slice.ensures.value in
    c.remove.ensures.items ∙ (found c.args.name.now c.args.objects.now.items c.in-Some.place c.remove.result place).1

pub returns-in-None-clause-object : goal.returns-in-None-clause-object
returns-in-None-clause-object g c =
    let none = sym c.in-None.is ∙ c.place_of.ensures.place ∙ ap (place_from 0 c.args.name.now) c.as_slice.ensures.value in
    ap (option_map (λ named. named.object)) (absent c.args.name.now c.args.objects.now.items none).0

pub returns-in-None-clause-rest : goal.returns-in-None-clause-rest
returns-in-None-clause-rest g c =
    let none = sym c.in-None.is ∙ c.place_of.ensures.place ∙ ap (place_from 0 c.args.name.now) c.as_slice.ensures.value in
    (absent c.args.name.now c.args.objects.now.items none).1
