use Rattle.std.proofs.Common.{inl, inr}
use Rattle.dynamo_record.proofs.Chosen.{names_none}
use Rattle.dynamo_record.proofs.enumeration.place_named.Goals as goal

pub returns-else-place-names : goal.returns-else-place-names
returns-else-place-names g c =
    let none = names_none (λ n. n.now) c.names-names.result.now g.T.Enumeration.about.names c.names-names.ensures c.args.name.now c.place_of-place.result c.place_of-place.ensures c.if-place-names.false in
    elim c.unknown_variant.ensures [ inl says ↦ inr (none, says) | inr lacks ↦ inl lacks ]
