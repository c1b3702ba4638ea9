use Rattle.std.proofs.Common.{◌≡◌, ◌⊎◌, ℕ, List, Bor, Ok, map, subst}
use Rattle.dynamo_record.proofs.Common.{message, out_of_memory, HoldsField, missing_text}
use Rattle.dynamo_record.specs.About.{IsAbsent}
use Rattle.dynamo_record.proofs.OneField.{field_there, field_absent, field_missed}
use Rattle.dynamo_record.proofs.field_list.FieldFieldList.complete.Goals as goal

pub returns-in-Some : goal.returns-in-Some
returns-in-Some g c = λ ss gs os more h.
    let a = g.F.FieldType.about in
    field_there a.shape a.tells g.E.Error.fault g.F.FieldType.default (map (λ n. n.now) c.args.names.now) (λ names. map (λ n. n.now) names.now) ss gs os more c.first_of.result.1 c.first_of.ensures.others c.in-Some.value
    (subst (λ x. HoldsField a.shape a.tells x os more) c.in-Some.is h)

pub returns-in-Ok-Some : goal.returns-in-Ok-Some
returns-in-Ok-Some g c = λ ss gs os more h.
    let a = g.F.FieldType.about in
    field_absent a.shape a.tells g.E.Error.fault g.F.FieldType.default (map (λ n. n.now) c.args.names.now) (λ names. map (λ n. n.now) names.now) ss gs os more c.first_of.result.1 c.first_of.ensures.others c.in-Ok-Some.value
    (subst (λ o. IsAbsent g.E.Error.fault a.shape g.F.FieldType.default a.tells (Ok o)) c.in-Ok-Some.field-0-is c.in-Ok-Some.ensures) (subst (λ x. HoldsField a.shape a.tells x os more) c.in-None.is h)

pub returns-in-Ok-None : goal.returns-in-Ok-None
returns-in-Ok-None g c = λ ss gs os more h.
    let a = g.F.FieldType.about in
    field_missed a.shape a.tells g.E.Error.fault g.F.FieldType.default (map (λ n. n.now) c.args.names.now) (λ (names : Bor (List (Bor (List ℕ)))). map (λ n. n.now) names.now) ss gs os more c.missing_field.result
    (subst (λ o. IsAbsent g.E.Error.fault a.shape g.F.FieldType.default a.tells (Ok o)) c.in-Ok-None.field-0-is c.in-Ok-None.ensures) (subst (λ x. HoldsField a.shape a.tells x os more) c.in-None.is h)
    (subst (λ n. (g.E.Error.fault c.missing_field.result ≡ message (missing_text n)) ⊎ (g.E.Error.fault c.missing_field.result ≡ out_of_memory)) c.first_of.ensures.first c.missing_field.ensures)
