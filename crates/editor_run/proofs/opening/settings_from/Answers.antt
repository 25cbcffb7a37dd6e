use Rattle.editor_core.specs.HandedIn.{meanings, product_of}
use Rattle.editor_run.proofs.Names.{names_read, read_ok, read_err, read_handed_in}
use Rattle.editor_run.proofs.opening.settings_from.Goals as goal

pub returns-clause-ok : goal.returns-clause-ok
returns-clause-ok g c =
    let product =
    product_of (meanings (λ b. (goal.Converter-dyn g (b.vtable, b.value)).gives b.value) (λ b. (goal.Fixer-dyn g (b.vtable, b.value)).fixes b.value))
    c.args.extensions.now in
    let converters =
    names_read (λ b. (goal.Converter-dyn g (b.vtable, b.value)).gives b.value) c.as_slice-3.result.now c.in_ok-converters.converters.items
    c.as_slice.result.now c.args.extensions.now.converters.items c.as_slice-3.ensures.value c.in_ok-converters.ensures c.as_slice.ensures.value in
    let fixers =
    names_read (λ b. (goal.Fixer-dyn g (b.vtable, b.value)).fixes b.value) c.as_slice-4.result.now c.in_ok-fixers.fixers.items
    c.as_slice-2.result.now c.args.extensions.now.fixers.items c.as_slice-4.ensures.value c.in_ok-fixers.ensures c.as_slice-2.ensures.value in
    read_ok product c.as_slice-3.result.now c.as_slice-4.result.now c.read_settings.result converters fixers c.args.bytes.now c.read_settings.ensures.ok

pub returns-clause-refused : goal.returns-clause-refused
returns-clause-refused g c =
    let product =
    product_of (meanings (λ b. (goal.Converter-dyn g (b.vtable, b.value)).gives b.value) (λ b. (goal.Fixer-dyn g (b.vtable, b.value)).fixes b.value))
    c.args.extensions.now in
    let converters =
    names_read (λ b. (goal.Converter-dyn g (b.vtable, b.value)).gives b.value) c.as_slice-3.result.now c.in_ok-converters.converters.items
    c.as_slice.result.now c.args.extensions.now.converters.items c.as_slice-3.ensures.value c.in_ok-converters.ensures c.as_slice.ensures.value in
    let fixers =
    names_read (λ b. (goal.Fixer-dyn g (b.vtable, b.value)).fixes b.value) c.as_slice-4.result.now c.in_ok-fixers.fixers.items
    c.as_slice-2.result.now c.args.extensions.now.fixers.items c.as_slice-4.ensures.value c.in_ok-fixers.ensures c.as_slice-2.ensures.value in
    read_err product c.as_slice-3.result.now c.as_slice-4.result.now c.args.bytes.now c.read_settings.result converters fixers
    c.read_settings.ensures.refused

pub returns-clause-handed_in : goal.returns-clause-handed_in
returns-clause-handed_in g c =
    let product =
    product_of (meanings (λ b. (goal.Converter-dyn g (b.vtable, b.value)).gives b.value) (λ b. (goal.Fixer-dyn g (b.vtable, b.value)).fixes b.value))
    c.args.extensions.now in
    let converters =
    names_read (λ b. (goal.Converter-dyn g (b.vtable, b.value)).gives b.value) c.as_slice-3.result.now c.in_ok-converters.converters.items
    c.as_slice.result.now c.args.extensions.now.converters.items c.as_slice-3.ensures.value c.in_ok-converters.ensures c.as_slice.ensures.value in
    let fixers =
    names_read (λ b. (goal.Fixer-dyn g (b.vtable, b.value)).fixes b.value) c.as_slice-4.result.now c.in_ok-fixers.fixers.items
    c.as_slice-2.result.now c.args.extensions.now.fixers.items c.as_slice-4.ensures.value c.in_ok-fixers.ensures c.as_slice-2.ensures.value in
    read_handed_in product c.as_slice-3.result.now c.as_slice-4.result.now c.read_settings.result converters fixers c.read_settings.ensures.handed_in
    c.read_settings.ensures.fixers_handed_in
