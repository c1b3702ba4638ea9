use Rattle.std.proofs.Common.{rules, inl, inr, refl, ℕ, Option, Some, None, Ok, String, Global}
use Rattle.std.proofs.lemmas.Result.{err_from_is_err_and}
use Rattle.dynamo_de.specs.Access.{NextElement}
use Rattle.dynamo_de.specs.Answer.{Is}
use Rattle.example_types.specs.GaugeShape.{gauge_told}
use Rattle.example_types.proofs.GaugeFields.{ReadsId, ReadsReading, id_element, id_lacks, id_fails, reading_element, reading_fails, reading_lacks}
use Rattle.example_types.proofs.by_hand.GaugeVisitorVisitor.visit_seq.Goals as goal

pub returns-in_err-id : goal.returns-in_err-id
returns-in_err-id g c =
    let p = err_from_is_err_and c.from_residual.result c.from_residual.ensures.1 in
    rw (p.1, p.2) (elim (id_fails g.A.Error.Error.fault (g.A.SeqAccess.left c.args.seq) (g.A.SeqAccess.left c.next_element.new.self) (Is gauge_told) _ c.in_err-id.field-0.0 c.in_err-id.ensures) [ inl lacks ↦ inl lacks | inr failed ↦ inr failed ])

pub returns-in_default : goal.returns-in_default
returns-in_default g c =
    let e1 : NextElement {V = String Global} g.A.Error.Error.fault ReadsId (g.A.SeqAccess.left c.args.seq) (g.A.SeqAccess.left c.next_element.new.self) (Ok None) = search rules in
    elim c.custom.ensures [ inr lacks ↦ inl lacks | inl told ↦ inr (id_lacks g.A.Error.Error.fault (g.A.SeqAccess.left c.args.seq) (g.A.SeqAccess.left c.next_element.new.self) (Is gauge_told) _ (g.A.Error.Error.fault c.custom.result) e1 (_, told)) ]

pub returns-in_err-reading : goal.returns-in_err-reading
returns-in_err-reading g c =
    let p = err_from_is_err_and c.from_residual-in_err-reading.result c.from_residual-in_err-reading.ensures.1 in
    let e1 : NextElement g.A.Error.Error.fault ReadsId (g.A.SeqAccess.left c.args.seq) (g.A.SeqAccess.left c.next_element.new.self) (Ok (Some c.in-Some.id)) = search rules in
    rw (p.1, p.2) (elim (reading_fails g.A.Error.Error.fault (g.A.SeqAccess.left c.next_element.new.self) (g.A.SeqAccess.left c.next_element-2.new.self) (Is gauge_told) _ c.in_err-reading.field-0.0 c.in_err-reading.ensures) [ inl lacks ↦ inl lacks | inr failed ↦ inr (id_element g.A.Error.Error.fault (g.A.SeqAccess.left c.args.seq) (g.A.SeqAccess.left c.next_element.new.self) (Is gauge_told) _ c.in-Some.id _ e1 failed) ])

pub returns-in_default-2 : goal.returns-in_default-2
returns-in_default-2 g c =
    let e1 : NextElement g.A.Error.Error.fault ReadsId (g.A.SeqAccess.left c.args.seq) (g.A.SeqAccess.left c.next_element.new.self) (Ok (Some c.in-Some.id)) = search rules in
    let e2 : NextElement {V = Option ℕ} g.A.Error.Error.fault ReadsReading (g.A.SeqAccess.left c.next_element.new.self) (g.A.SeqAccess.left c.next_element-2.new.self) (Ok None) = search rules in
    elim c.custom-in_default-2.ensures [ inr lacks ↦ inl lacks | inl told ↦ inr (id_element g.A.Error.Error.fault (g.A.SeqAccess.left c.args.seq) (g.A.SeqAccess.left c.next_element.new.self) (Is gauge_told) _ c.in-Some.id _ e1 (reading_lacks g.A.Error.Error.fault (g.A.SeqAccess.left c.next_element.new.self) (g.A.SeqAccess.left c.next_element-2.new.self) (Is gauge_told) _ (g.A.Error.Error.fault c.custom-in_default-2.result) e2 (_, told))) ]

pub returns : goal.returns
returns g c =
    let e1 : NextElement g.A.Error.Error.fault ReadsId (g.A.SeqAccess.left c.args.seq) (g.A.SeqAccess.left c.next_element.new.self) (Ok (Some c.in-Some.id)) = search rules in
    let e2 : NextElement g.A.Error.Error.fault ReadsReading (g.A.SeqAccess.left c.next_element.new.self) (g.A.SeqAccess.left c.next_element-2.new.self) (Ok (Some c.in-Some-2.reading)) = search rules in
    id_element g.A.Error.Error.fault (g.A.SeqAccess.left c.args.seq) (g.A.SeqAccess.left c.next_element.new.self) (Is gauge_told) _ c.in-Some.id _ e1 (reading_element g.A.Error.Error.fault (g.A.SeqAccess.left c.next_element.new.self) (g.A.SeqAccess.left c.next_element-2.new.self) (Is gauge_told) _ c.in-Some-2.reading _ e2 refl)
