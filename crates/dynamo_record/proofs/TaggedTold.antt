-- What a variant of an internally tagged enum tells conforms to its shape.
use Rattle.std.proofs.Common.{◌≡◌, ◌<◌, ℕ, sym, subst}
use Rattle.dynamo_record.proofs.Common.{Fields, Text, conforms, conform_fields, tagged_struct}
use Rattle.dynamo_record.proofs.Common.{FieldShapes, AboutTagged, all_counted, at_its_place}
use Rattle.dynamo_record.proofs.Common.{tagged_shape, tagged_structs, struct_at, name_at}

pub tagged_conforms : {V L : Type 0} (a : AboutTagged V L) (i : ℕ) (name : Text) (fs : FieldShapes) → (i < a.list.count) × (struct_at i (tagged_structs a) ≡ (name, fs)) → (gs : Fields) → conform_fields fs gs → conforms (tagged_shape a) (tagged_struct a.tag (name_at a.names i) name gs)
tagged_conforms a i name fs h gs c =
    let inside = subst (λ n. i < n) (sym (all_counted a)) h.0 in
    let own = subst (λ s. conform_fields s.1 gs) (sym h.1) c in
    subst (λ s. conforms (tagged_shape a) (tagged_struct a.tag (name_at a.names i) s.0 gs)) h.1 (at_its_place a.tag a.names (tagged_structs a) i inside gs own)
