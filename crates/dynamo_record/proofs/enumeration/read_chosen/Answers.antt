use Rattle.std.proofs.Common.{[]}
use Rattle.dynamo_record.proofs.Common.{err_from_is_err_and, of_variants}
use Rattle.dynamo_record.proofs.Chosen.{named_as, place_fits, enum_made, enum_fails, tag_fails}
use Rattle.dynamo_record.proofs.enumeration.read_chosen.Goals as goal

pub returns-in_err-place : goal.returns-in_err-place
returns-in_err-place g c =
    let own = g.T.Enumeration.about in
    let list = g.T.Variants.VariantList.about in
    let p = err_from_is_err_and c.from_residual.result c.from_residual.ensures.1 in
    rw (p.1, p.2) (tag_fails (of_variants own list) (named_as own list g.met.T.Enumeration.named c.requires) g.A.Error.Error.fault g.A.Variant.VariantAccess.content (g.A.EnumAccess.chosen c.args.variant) c.in_err-place.field-0.0 c.in_err-place.ensures)

pub returns-in-Ok : goal.returns-in-Ok
returns-in-Ok g c =
    let own = g.T.Enumeration.about in
    let a = of_variants own g.T.Variants.VariantList.about in
    let named = named_as own g.T.Variants.VariantList.about g.met.T.Enumeration.named c.requires in
    let chosen = g.A.EnumAccess.chosen c.args.variant in
    let content = g.A.Variant.VariantAccess.content in
    let fits = place_fits a named g.A.Error.Error.fault content chosen c.in_ok-place.place c.in_ok-place.content c.in_ok-place.ensures in
    enum_made a named g.A.Error.Error.fault content c.in_ok-place.place c.in_ok-place.content chosen c.in-Ok.variant c.make.result c.make.ensures c.in_ok-place.ensures (c.in-Ok.ensures fits.0 fits.1 a.name a.names 0 [])

pub returns-in-Err : goal.returns-in-Err
returns-in-Err g c =
    let own = g.T.Enumeration.about in
    let a = of_variants own g.T.Variants.VariantList.about in
    let named = named_as own g.T.Variants.VariantList.about g.met.T.Enumeration.named c.requires in
    let chosen = g.A.EnumAccess.chosen c.args.variant in
    let content = g.A.Variant.VariantAccess.content in
    let fits = place_fits a named g.A.Error.Error.fault content chosen c.in_ok-place.place c.in_ok-place.content c.in_ok-place.ensures in
    enum_fails a named g.A.Error.Error.fault content c.in_ok-place.place c.in_ok-place.content chosen c.in-Err.error c.in_ok-place.ensures (c.in-Err.ensures fits.0 fits.1 a.name a.names 0 [])
