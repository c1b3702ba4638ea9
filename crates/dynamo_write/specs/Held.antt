-- What a builder holds: the entries or fields that were written so far, by their texts and by how contracts see their values, in
-- the order of the calls. And the allocator of a serializer.
use Rattle.std.specs.Prelude.{ℕ, List, map, String, string_bytes}
use Rattle.std.specs.Borrow.{Bor}
use Rattle.std.specs.declared.alloc.Global.{Global}
use Rattle.dynamo_write.specs.declared.serializer.Serializer.{Serializer}

abbrev pub held_entries : {V A : Type 0} → (V → A) → List (String Global × V) → List (List ℕ × A)
held_entries seen es = map (λ e. (string_bytes e.0, seen e.1)) es

abbrev pub fields_of : {V A : Type 0} → (V → A) → List (Bor (List ℕ) × V) → List (List ℕ × A)
fields_of seen fs = map (λ e. (e.0.now, seen e.1)) fs

abbrev pub allocator_of : Serializer → Global
allocator_of s = s.alloc
