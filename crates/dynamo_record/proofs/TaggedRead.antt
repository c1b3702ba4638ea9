-- An internally tagged enum is read from the tag and the other entries as its shape says.
use Rattle.std.proofs.Common.{◌≡◌, ◌++◌, ◌<◌, ◌+◌, ◌^◌, ℕ, zero, suc, true, false, List, [], ◌∷◌, Some, None, Result, Ok, Err, length, refl, sym, ap, subst, ◌∙◌, inl, inr, arith}
use Rattle.dynamo_record.proofs.Common.{String, string_bytes, if◌then◌else◌, bytes_eq, Fault, ◌>>=◌}
use Rattle.dynamo_record.proofs.Common.{Datum, Fields, Answer, After, Gives, Meets, IsMessage}
use Rattle.dynamo_record.proofs.Common.{read_entries, read_string, Source, Text, Entry, attribute}
use Rattle.dynamo_record.proofs.Common.{meets_more, conforms, conform_fields, Permits, into}
use Rattle.dynamo_record.proofs.Common.{fields_by_name, read_field, read_tag, read_tag_of}
use Rattle.dynamo_record.proofs.Common.{read_tagged, Same, SameFields, FieldShapes, after, stops}
use Rattle.dynamo_record.proofs.Common.{NamesVariant, IsLast, ReadsFields, Names, place_of}
use Rattle.dynamo_record.proofs.Common.{AboutTagged, IsFit, FromEntries, all_tagged, alike_at}
use Rattle.dynamo_record.proofs.Common.{as_many, own, struct_of, tagged_reads, tagged_shape}
use Rattle.dynamo_record.proofs.Common.{tagged_structs, tagged_tells, tagged_variants, Structs}
use Rattle.dynamo_record.proofs.Common.{struct_at, AreBehind, AllBehind}
use Rattle.dynamo_de.specs.Answer as answer
use Rattle.std.specs.declared.alloc.Global.{Global}
use Rattle.dynamo_record.proofs.Chosen.{shift}
use Rattle.dynamo_record.proofs.HeldEntries.{last_found}
use Rattle.dynamo_record.proofs.Skipped.{text_ignored, without_tag}

-- ---- the variant of a name is that at the name's place

-- the struct of the variant at a place
abbrev read_struct : Text → Names → Structs → ℕ → List Entry → Answer Datum
read_struct tag ns ss i es = into (struct_of tag ns ss i) (fields_by_name (struct_at i ss).1 (read_field (struct_at i ss).1) es)

module _ (tag t : Text) (es : List Entry) where
  chosen : (ns : Names) (ss : Structs) → length ns ≡ length ss → (i : ℕ) → place_of 0 ns t ≡ i → i < length ns → read_tagged (tagged_variants ns ss) tag t es ≡ read_struct tag ns ss i es
  chosen [] ss h i p inside = absurd (let k : ⊥ = omega arith in k)
  chosen (n ∷ ns) [] h i p inside = absurd (let k : ⊥ = omega arith in k)
  chosen (n ∷ ns) (s ∷ ss) h zero p inside =
      let next = shift ns 0 t in
      (elim (bytes_eq t n) as (λ b. (if b then 0 else place_of 1 ns t) ≡ 0 → (if b then read_struct tag (n ∷ ns) (s ∷ ss) 0 es else read_tagged (tagged_variants ns ss) tag t es) ≡ read_struct tag (n ∷ ns) (s ∷ ss) 0 es) [
        | true ↦ λ p. refl
        | false ↦ λ p. absurd (let k : ⊥ = omega arith in k)
      ]) p
  chosen (n ∷ ns) (s ∷ ss) h (suc i) p inside =
      let next = shift ns 0 t in
      let k : length ns ≡ length ss = omega arith in
      let below : i < length ns = omega arith in
      (elim (bytes_eq t n) as (λ b. (if b then 0 else place_of 1 ns t) ≡ suc i → (if b then read_struct tag (n ∷ ns) (s ∷ ss) 0 es else read_tagged (tagged_variants ns ss) tag t es) ≡ read_struct tag ns ss i es) [
        | true ↦ λ p. absurd (let k : ⊥ = omega arith in k)
        | false ↦ λ p. chosen ns ss k i (let at : place_of 0 ns t ≡ i = omega arith in at) below
      ]) p

  none_chosen : (ns : Names) (ss : Structs) → length ns ≡ length ss → place_of 0 ns t ≡ length ns → read_tagged (tagged_variants ns ss) tag t es ≡ answer.refused
  none_chosen [] [] h p = refl
  none_chosen [] (s ∷ ss) h p = absurd (let k : ⊥ = omega arith in k)
  none_chosen (n ∷ ns) [] h p = refl
  none_chosen (n ∷ ns) (s ∷ ss) h p =
      let next = shift ns 0 t in
      let k : length ns ≡ length ss = omega arith in
      (elim (bytes_eq t n) as (λ b. (if b then 0 else place_of 1 ns t) ≡ suc (length ns) → (if b then read_struct tag (n ∷ ns) (s ∷ ss) 0 es else read_tagged (tagged_variants ns ss) tag t es) ≡ answer.refused) [
        | true ↦ λ p. absurd (let k : ⊥ = omega arith in k)
        | false ↦ λ p. none_chosen ns ss k (let at : place_of 0 ns t ≡ length ns = omega arith in at)
      ]) p

-- the fields of each variant fit the tag
behind_at : (tag : Text) (ss : Structs) (i : ℕ) → AllBehind tag ss → AreBehind tag (struct_at i ss).1
behind_at tag [] i h = (refl, tt)
behind_at tag (s ∷ ss) zero h = h.0
behind_at tag (s ∷ ss) (suc i) h = behind_at tag ss i h.1

-- ---- from the tag and the other entries

text_read : (q : Answer Text) (name : String Global) → Gives string_bytes q (Ok name) → q ≡ answer.value (string_bytes name)
text_read (Ok t) name h = ap answer.value (sym h)
text_read (Err f) name h = absurd h

-- the text of the tag
pub tag_text : (s t : Source) (name : String Global) → s ≡ t → Gives string_bytes (read_string s) (Ok name) → read_string t ≡ answer.value (string_bytes name)
tag_text s t name e h = text_read (read_string t) name (subst (λ s. Gives string_bytes (read_string s) (Ok name)) e h)

-- the names are those of the description
pub names_same : {E : Type 0} (fault : E → Fault) (ns ms : Names) (t u : Text) (r : Result ℕ E) → ns ≡ ms → t ≡ u → Meets fault (NamesVariant ns t) r → Meets fault (NamesVariant ms u) r
names_same fault ns ms t u r e f h = subst (λ ns. Meets fault (NamesVariant ns u) r) e (subst (λ t. Meets fault (NamesVariant ns t) r) f h)

not_text : (q : Answer Text) (next : Text → Answer Datum) (f : Fault) → Gives {V = String Global} string_bytes q (Err f) → Permits Same (q >>= next) (Err f)
not_text (Ok t) next f h = absurd h
not_text (Err g) next f h = h

module _ {V L : Type 0} (a : AboutTagged V L) where
  abbrev structs : Structs
  structs = tagged_structs a

  abbrev fields : ℕ → FieldShapes
  fields i = (struct_at i structs).1

  abbrev answered : List Entry → Answer Datum
  answered es = read_tag a.tag es >>= λ t. read_tagged (all_tagged a) a.tag t es

  -- the place is that of a variant
  pub variant_inside : IsFit a → (t : Text) (i : ℕ) → NamesVariant a.names t (Ok i) → (i < a.list.count) × (i + 1 < 2 ^ 64)
  variant_inside fit t i h = (subst (λ n. i < n) fit.1 h.1, h.2)

  module _ (es : List Entry) (place : ℕ) (last : IsLast a.tag es (Some place)) where
    abbrev others : List Entry
    others = last.0 ++ last.2

    tag_found : read_tag a.tag es ≡ read_string (attribute last.1)
    tag_found = ap read_tag_of (last_found a.tag es place last)

    module _ (t : Text) (read : read_string (attribute last.1) ≡ answer.value t) where
      tag_read : read_tag a.tag es ≡ answer.value t
      tag_read = tag_found ∙ read

      after_tag : answered es ≡ read_tagged (all_tagged a) a.tag t es
      after_tag = ap (λ q. q >>= λ t. read_tagged (all_tagged a) a.tag t es) tag_read

      module _ (fit : IsFit a) where
        module _ (i : ℕ) (names : NamesVariant a.names t (Ok i)) where
          fields_read : answered es ≡ into (struct_of a.tag a.names structs i) (fields_by_name (fields i) (read_field (fields i)) others)
          fields_read =
              after_tag ∙ chosen a.tag t es a.names structs (as_many a fit) i (sym names.0) names.1
              ∙ ap (λ l. read_struct a.tag a.names structs i l) last.3
              ∙ without_tag (struct_of a.tag a.names structs i) (fields i) a.tag last.1 (behind_at a.tag structs i (a.list.are_behind a.tag fit.2 a.name [] tt)) (text_ignored last.1 t read) last.0 last.2

          abbrev Reads : Result L Fault → Type 0
          Reads = ReadsFields a.list.place a.list.told i (fields i) others

          -- what a value tells is the same as this struct, so far as its fields conform
          abbrev Alike : Fields → L → Type 0
          Alike gs l = conform_fields (struct_at (a.list.place l) structs).1 (a.list.told l) → Same (struct_of a.tag a.names structs i gs) (struct_of a.tag a.names structs (a.list.place l) (a.list.told l))

          alike : (x : L) (gs : Fields) → a.list.place x ≡ i → (conform_fields (fields i) (a.list.told x) → SameFields gs (a.list.told x)) → Alike gs x
          alike x gs p same k =
              subst (λ j. Same (struct_of a.tag a.names structs i gs) (struct_of a.tag a.names structs j (a.list.told x))) (sym p)
              (alike_at a.tag a.names structs i gs (a.list.told x) (same (subst (λ j. conform_fields (struct_at j structs).1 (a.list.told x)) p k)))

          pub variant_made : (x : L) (y : V) → a.parts y ≡ x → Reads (Ok x) → FromEntries a es (Ok y)
          variant_made x y e h = (
            struct_of a.tag a.names structs i h.1.0,
            fields_read ∙ ap (into (struct_of a.tag a.names structs i)) h.1.1,
            λ c. subst (Alike h.1.0) (sym e) (alike x h.1.0 h.0 h.1.2) (own a fit y c),
          )

          pub variant_fails : {E : Type 0} (fault : E → Fault) (e : E) → Meets fault Reads (Err e) → Meets {V = V} fault (FromEntries a es) (Err e)
          variant_fails fault e (inl lacks) = inl lacks
          variant_fails fault e (inr failed) =
              inr (subst (λ q. Permits Same q (Err (fault e))) (sym fields_read)
              (stops SameFields Same (fields_by_name (fields i) (read_field (fields i)) others) (λ gs. answer.value (struct_of a.tag a.names structs i gs)) (fault e) failed))

        -- the text names no variant
        pub unknown_fails : {E : Type 0} (fault : E → Fault) (e : E) → Meets {V = ℕ} fault (NamesVariant a.names t) (Err e) → Meets {V = V} fault (FromEntries a es) (Err e)
        unknown_fails fault e (inl lacks) = inl lacks
        unknown_fails fault e (inr none) =
            inr (subst (λ q. Permits Same q (Err (fault e))) (sym (after_tag ∙ none_chosen a.tag t es a.names structs (as_many a fit) none.0)) none.1)

    -- the tag is no text
    pub tag_fails : {E : Type 0} (fault : E → Fault) (s : Source) (e : E) → s ≡ attribute last.1 → Meets {V = String Global} fault (Gives string_bytes (read_string s)) (Err e) → Meets {V = V} fault (FromEntries a es) (Err e)
    tag_fails fault s e is (inl lacks) = inl lacks
    tag_fails fault s e is (inr failed) =
        let next : Text → Answer Datum = λ t. read_tagged (all_tagged a) a.tag t es in
        let here = subst (λ s. Gives {V = String Global} string_bytes (read_string s) (Err (fault e))) is failed in
        inr (subst (λ q. Permits Same (q >>= next) (Err (fault e))) (sym tag_found) (not_text (read_string (attribute last.1)) next (fault e) here))

  -- there is no tag
  pub none_fails : (es : List Entry) → IsLast a.tag es None → (f : Fault) → IsMessage {V = V} (Err f) → FromEntries a es (Err f)
  none_fails es none f h = subst (λ o. Permits Same (read_tag_of o >>= λ t. read_tagged (all_tagged a) a.tag t es) (Err f)) (sym none) h

  -- from any source
  pub tagged_by_source : {E : Type 0} (fault : E → Fault) (s : Source) (r : Result V E) → Meets fault (After (read_entries s) (FromEntries a)) r → Meets fault (tagged_reads a s) r
  tagged_by_source fault s r h =
      meets_more fault (After (read_entries s) (FromEntries a)) (tagged_reads a s)
      (λ r k. after (conforms (tagged_shape a)) Same (tagged_tells a) (FromEntries a) answered (λ es r k. k) (read_entries s) r k) r h
