use Rattle.std.proofs.Common.{◌≡◌, ◌≤◌, length, sym, ap, subst, ◌∙◌, inl, inr}
use Rattle.dynamo_record.proofs.Common.{place_of}
use Rattle.dynamo_record.specs.UnitEnums.{IsNumber}
use Rattle.dynamo_record.proofs.Variants.{name_read, name_refused}
use Rattle.dynamo_record.proofs.unit_enum.named.Goals as goal

pub returns-in-Some : goal.returns-in-Some
unfolding IsNumber
returns-in-Some g c =
    let a = g.T.UnitEnum.about in
    let place : c.place_of.result ≡ place_of 0 a.names c.args.name.now = c.place_of.ensures ∙ ap (λ ns. place_of 0 ns c.args.name.now) c.names-names.ensures in
    name_read a c.args.name.now c.in-Some.variant (sym place ∙ sym (subst (IsNumber a.number (length a.names) c.place_of.result) c.in-Some.is c.variant.ensures))

pub returns-in-None : goal.returns-in-None
unfolding IsNumber
returns-in-None g c =
    let a = g.T.UnitEnum.about in
    let place : c.place_of.result ≡ place_of 0 a.names c.args.name.now = c.place_of.ensures ∙ ap (λ ns. place_of 0 ns c.args.name.now) c.names-names.ensures in
    let behind = subst (λ n. length a.names ≤ n) place (subst (IsNumber a.number (length a.names) c.place_of.result) c.in-None.is c.variant.ensures) in
    elim c.unknown_variant.ensures [
      | inl text ↦ inr (name_refused a c.args.name.now (g.E.Error.fault c.unknown_variant.result) behind text)
      | inr lacks ↦ inl lacks
    ]
