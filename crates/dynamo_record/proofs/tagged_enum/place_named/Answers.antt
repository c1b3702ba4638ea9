use Rattle.std.proofs.Common.{map, refl, inl, inr}
use Rattle.dynamo_record.proofs.Chosen.{names_none}
use Rattle.dynamo_record.proofs.tagged_enum.place_named.Goals as goal

pub returns-else-place-names : goal.returns-else-place-names
returns-else-place-names g c =
    let none = names_none (λ n. n.now) c.args.names.now (map (λ n. n.now) c.args.names.now) refl c.args.name.now c.place_of-place.result c.place_of-place.ensures c.if-place-names.false in
    elim c.unknown_variant.ensures [ inl says ↦ inr (none, says) | inr lacks ↦ inl lacks ]
