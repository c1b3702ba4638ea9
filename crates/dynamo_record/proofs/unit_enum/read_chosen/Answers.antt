use Rattle.dynamo_record.proofs.Common.{err_from_is_err_and}
use Rattle.dynamo_record.proofs.Variants.{variant_read, variant_fails}
use Rattle.dynamo_record.proofs.unit_enum.read_chosen.Goals as goal

pub returns-in_err-value : goal.returns-in_err-value
returns-in_err-value g c =
    let p = err_from_is_err_and c.from_residual.result c.from_residual.ensures.1 in
    rw (p.1, p.2) (variant_fails g.T.UnitEnum.about g.A.Error.Error.fault g.A.Variant.VariantAccess.content (g.A.EnumAccess.chosen c.args.variant) c.in_err-value.field-0.0 c.in_err-value.ensures)

pub returns : goal.returns
returns g c = variant_read g.T.UnitEnum.about g.A.Error.Error.fault g.A.Variant.VariantAccess.content (g.A.EnumAccess.chosen c.args.variant) c.in_ok-value.value c.in_ok-value.content c.in_ok-value.ensures
