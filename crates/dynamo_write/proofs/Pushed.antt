-- What a builder gives where it holds a piece more.
use Rattle.std.proofs.Common.{◌≡◌, ℕ, List, [], ◌∷◌, ◌++◌, String, string_bytes, Global, Result, Ok, Err, refl, ap, sym, subst, append_assoc}
use Rattle.std.proofs.lemmas.List.{map-append}
use Rattle.std.specs.Borrow.{Bor}
use Rattle.dynamo_value.specs.Fault.{Fault}
use Rattle.dynamo_value.specs.Steps.{◌>>=◌}
use Rattle.dynamo_value.specs.declared.error.Error.{Error}
use Rattle.dynamo_ser.specs.Datum as datum
use Rattle.dynamo_ser.specs.Datum.{Datum}
use Rattle.dynamo_ser.specs.Key.{key_text}
use Rattle.dynamo_write.specs.Held.{held_entries, fields_of}
use Rattle.dynamo_write.specs.Target.{AboutTarget, AnswersPart, GivesList, GivesWholeList, GivesMap, GivesStruct, parts_before, map_of}

module _ {V : Type 0} (t : AboutTarget V) where
  -- ---- lists

  before_push : (vs : List V) (v : V) (rest : t.Parts) → parts_before t (vs ++ v ∷ []) rest ≡ parts_before t vs (t.part (t.seen v) rest)
  before_push [] v rest = refl
  before_push (w ∷ vs) v rest = ap (t.part (t.seen w)) (before_push vs v rest)

  one_more_value : (vs : List V) (v : V) (whole : t.Parts → t.Seen) (x : Result t.Parts Fault)
      → (x >>= λ rest. Ok (whole (parts_before t (vs ++ v ∷ []) rest))) ≡ (x >>= λ rest. Ok (t.part (t.seen v) rest)) >>= (λ rest. Ok (whole (parts_before t vs rest)))
  one_more_value vs v whole (Ok rest) = ap (λ parts. Ok (whole parts)) (before_push vs v rest)
  one_more_value vs v whole (Err e) = refl

  pub list_pushed : (vs : List V) (v : V) (whole : t.Parts → t.Seen) (d : Datum) (ds : datum.Elements) (r : Result V Error)
      → t.written d ≡ Ok (t.seen v) → GivesList t (vs ++ v ∷ []) whole ds r → GivesList t vs whole (datum.element d ds) r
  list_pushed vs v whole d ds r is given =
      rw (t.an_element d ds, is) (subst (λ x. AnswersPart t x r) (one_more_value vs v whole (t.elements ds)) given)

  pub whole_given : (vs : List V) (whole : t.Parts → t.Seen) (ds : datum.Elements) (r : Result V Error)
      → GivesWholeList t vs whole ds r → GivesList t vs whole ds r
  whole_given vs whole datum.no_elements (Ok v) is = rw t.no_element (ap Ok (sym is))
  whole_given vs whole datum.no_elements (Err e) none = absurd none
  whole_given vs whole (datum.element d ds) r given = given

  pub whole_list_pushed : (vs : List V) (v : V) (whole : t.Parts → t.Seen) (d : Datum) (ds : datum.Elements) (r : Result V Error)
      → t.written d ≡ Ok (t.seen v) → GivesWholeList t (vs ++ v ∷ []) whole ds r → GivesWholeList t vs whole (datum.element d ds) r
  whole_list_pushed vs v whole d ds r is given =
      list_pushed vs v whole d ds r is (whole_given (vs ++ v ∷ []) whole ds r given)

  -- ---- entries

  one_more_entry : (es : List (List ℕ × t.Seen)) (e : List ℕ × t.Seen) (whole : List (List ℕ × t.Seen) → t.Seen) (x : Result (List (List ℕ × t.Seen)) Fault)
      → (x >>= λ rest. Ok (whole ((es ++ e ∷ []) ++ rest))) ≡ (x >>= λ rest. Ok (e ∷ rest)) >>= (λ rest. Ok (whole (es ++ rest)))
  one_more_entry es e whole (Ok rest) = ap (λ all. Ok (whole all)) (append_assoc es (e ∷ []) rest)
  one_more_entry es e whole (Err f) = refl

  pub entry_pushed : (es : List (String Global × V)) (key : String Global) (v : V) (k d : Datum) (ps : datum.Pairs) (r : Result V Error)
      → key_text k ≡ Ok (string_bytes key) → t.written d ≡ Ok (t.seen v)
      → GivesMap t (held_entries t.seen (es ++ (key, v) ∷ [])) ps r → GivesMap t (held_entries t.seen es) (datum.pair k d ps) r
  entry_pushed es key v k d ps r named is given =
      let held = held_entries t.seen es in
      let more : held_entries t.seen (es ++ (key, v) ∷ []) ≡ held ++ (string_bytes key, t.seen v) ∷ [] = map-append _ es ((key, v) ∷ []) in
      let before : GivesMap t (held ++ (string_bytes key, t.seen v) ∷ []) ps r = subst (λ all. GivesMap t all ps r) more given in
      rw (t.a_pair k d ps, named, is) (subst (λ x. AnswersPart t x r) (one_more_entry held (string_bytes key, t.seen v) (map_of t) (t.pairs ps)) before)

  pub field_pushed : (es : List (Bor (List ℕ) × V)) (name : Bor (List ℕ)) (v : V) (whole : t.Seen → t.Seen) (d : Datum) (fs : datum.Fields) (r : Result V Error)
      → t.written d ≡ Ok (t.seen v)
      → GivesStruct t (fields_of t.seen (es ++ (name, v) ∷ [])) whole fs r → GivesStruct t (fields_of t.seen es) whole (datum.field name.now d fs) r
  field_pushed es name v whole d fs r is given =
      let held = fields_of t.seen es in
      let more : fields_of t.seen (es ++ (name, v) ∷ []) ≡ held ++ (name.now, t.seen v) ∷ [] = map-append _ es ((name, v) ∷ []) in
      let before : GivesStruct t (held ++ (name.now, t.seen v) ∷ []) whole fs r = subst (λ all. GivesStruct t all whole fs r) more given in
      rw (t.a_field name.now d fs, is) (subst (λ x. AnswersPart t x r) (one_more_entry held (name.now, t.seen v) (λ all. whole (map_of t all)) (t.fields fs)) before)
