use Rattle.std.proofs.Common.{[], ◌++◌, Ok, Err}
use Rattle.dynamo_record.proofs.Common.{string_bytes, err_from_is_err_and, attribute, of_tagged}
use Rattle.dynamo_record.proofs.HeldEntries.{last_held, others_held}
use Rattle.dynamo_record.proofs.TaggedRead.{names_same, tag_fails, tag_text, unknown_fails, variant_fails, variant_inside, variant_made}
use Rattle.dynamo_record.proofs.tagged_enum.read_variant.Goals as goal

pub returns-in_err-name : goal.returns-in_err-name
returns-in_err-name g c = λ es h last.
    let a = of_tagged g.T.TaggedEnum.about g.T.Variants.TaggedList.about in
    let source = g.D.Reader.source in
    let p = err_from_is_err_and c.from_residual.result c.from_residual.ensures.1 in
    let at = last_held source a.tag c.args.held.items es c.args.place h last c.remove-tag.result c.remove-tag.ensures.value in
    rw (p.1, p.2) (tag_fails a es c.args.place last g.D.Error.Error.fault (source c.remove-tag.result.1) c.in_err-name.field-0.0 at c.in_err-name.ensures)

pub returns-in_err-variant : goal.returns-in_err-variant
returns-in_err-variant g c = λ es h last.
    let a = of_tagged g.T.TaggedEnum.about g.T.Variants.TaggedList.about in
    let source = g.D.Reader.source in
    let p = err_from_is_err_and c.from_residual-in_err-variant.result c.from_residual-in_err-variant.ensures.1 in
    let e = c.in_err-variant.field-0.0 in
    let name = c.in_ok-name.name in
    let at = last_held source a.tag c.args.held.items es c.args.place h last c.remove-tag.result c.remove-tag.ensures.value in
    let read = tag_text (source c.remove-tag.result.1) (attribute last.1) name at c.in_ok-name.ensures in
    let none = names_same g.D.Error.Error.fault _ a.names _ (string_bytes name) (Err e) c.names.ensures c.as_str.ensures.value c.in_err-variant.ensures in
    rw (p.1, p.2) (unknown_fails a es c.args.place last (string_bytes name) read c.requires.fits g.D.Error.Error.fault e none)

pub returns-in-Ok : goal.returns-in-Ok
returns-in-Ok g c = λ es h last.
    let a = of_tagged g.T.TaggedEnum.about g.T.Variants.TaggedList.about in
    let source = g.D.Reader.source in
    let i = c.in_ok-variant.variant in
    let name = c.in_ok-name.name in
    let at = last_held source a.tag c.args.held.items es c.args.place h last c.remove-tag.result c.remove-tag.ensures.value in
    let others = others_held source a.tag c.args.held.items es c.args.place h last c.remove-tag.new.self.items c.remove-tag.ensures.items in
    let read = tag_text (source c.remove-tag.result.1) (attribute last.1) name at c.in_ok-name.ensures in
    let names = names_same g.D.Error.Error.fault _ a.names _ (string_bytes name) (Ok i) c.names.ensures c.as_str.ensures.value c.in_ok-variant.ensures in
    let inside = variant_inside a c.requires.fits (string_bytes name) i names in
    variant_made a es c.args.place last (string_bytes name) read c.requires.fits i names c.in-Ok.variant c.make.result c.make.ensures
    (c.in-Ok.ensures a.tag c.requires.fits.2 inside.0 inside.1 a.name [] (last.0 ++ last.2) others)

pub returns : goal.returns
returns g c = λ es h last.
    let a = of_tagged g.T.TaggedEnum.about g.T.Variants.TaggedList.about in
    let source = g.D.Reader.source in
    let i = c.in_ok-variant.variant in
    let name = c.in_ok-name.name in
    let at = last_held source a.tag c.args.held.items es c.args.place h last c.remove-tag.result c.remove-tag.ensures.value in
    let others = others_held source a.tag c.args.held.items es c.args.place h last c.remove-tag.new.self.items c.remove-tag.ensures.items in
    let read = tag_text (source c.remove-tag.result.1) (attribute last.1) name at c.in_ok-name.ensures in
    let names = names_same g.D.Error.Error.fault _ a.names _ (string_bytes name) (Ok i) c.names.ensures c.as_str.ensures.value c.in_ok-variant.ensures in
    let inside = variant_inside a c.requires.fits (string_bytes name) i names in
    variant_fails a es c.args.place last (string_bytes name) read c.requires.fits i names g.D.Error.Error.fault c.in-Err.error
    (c.in-Err.ensures a.tag c.requires.fits.2 inside.0 inside.1 a.name [] (last.0 ++ last.2) others)
