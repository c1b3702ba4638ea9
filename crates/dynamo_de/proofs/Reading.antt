-- What a visitor answers to a request is what its type reads.
use Rattle.std.proofs.Common.{◌≡◌, ℕ, ℤ, Bool, true, false, List, [], ◌∷◌, Option, Some, None, Result, Ok, Err, refl, inl, inr}
use Rattle.std.specs.Prelude.{if◌then◌else◌}
use Rattle.dynamo_value.specs.Av as av
use Rattle.dynamo_value.specs.Fault.{Fault, failed_to_parse_float}
use Rattle.dynamo_value.specs.Integer.{i64, u64}
use Rattle.dynamo_de.specs.Answer.{Answer, After}
use Rattle.dynamo_de.specs.Meets.{Meets}
use Rattle.dynamo_de.specs.Number.{parse, is_float_text}
use Rattle.dynamo_de.specs.Reading.{first_claimed, not_alone, taken, taken_from, read_identifier}
use Rattle.dynamo_de.specs.Shown.{Shown, shown, number_shown, signed_or_other, unsigned_or_float}
use Rattle.dynamo_de.specs.Showing as showing
use Rattle.dynamo_de.specs.Showing.{Showing}
use Rattle.dynamo_de.specs.Source.{Source, attribute, number_text}
use Rattle.dynamo_de.specs.Takes.{Takes, TakesFirst, Visited, Asks, Where, Way, Claims, char_ways, ways}
use Rattle.dynamo_de.specs.Visitors.{claims_str, take_identifier}
use Rattle.dynamo_de.specs.declared.kind.Kind.{Kind}
use Rattle.dynamo_de.specs.declared.request.Request.{Request}
use Rattle.dynamo_de.specs.declared.request.Request.TheVariants as request
use Rattle.dynamo_de.proofs.Meets.{meets_more}

-- what a number text is shown as where no integer is asked for
module _ (P : Shown → Type 0) (signed : (z : ℤ) → P (Ok (showing.integer i64 z))) (unsigned : (z : ℤ) → P (Ok (showing.integer u64 z)))
    (float : (t : List ℕ) → P (Ok (showing.number_text t))) (fails : (f : Fault) → P (Err f)) where
  float_case : (b : Bool) (t : List ℕ) → P (if b then Ok (showing.number_text t) else Err (failed_to_parse_float t))
  float_case true t = float t
  float_case false t = fails (failed_to_parse_float t)

  unsigned_case : (o : Option ℤ) (t : List ℕ) → P (unsigned_or_float o t)
  unsigned_case None t = float_case (is_float_text t) t
  unsigned_case (Some z) t = unsigned z

  signed_case : (o : Option ℤ) (t : List ℕ) → P (signed_or_other o t)
  signed_case None t = unsigned_case (parse u64 t) t
  signed_case (Some z) t = signed z

  pub number_cases : (t : List ℕ) → P (number_shown t)
  number_cases t = signed_case (parse i64 t) t

module _ {A V : Type 0} (claims : Kind → Bool) (take : Showing → Answer A) (next : A → Result V Fault → Type 0) where
  abbrev takes : Showing → Result V Fault → Type 0
  takes x = After (take x) next

  one : (b : Bool) (a otherwise : Answer A) (P : Type 0) (r : Result V Fault) → (P → After otherwise next r) → Where b (After a next r) P → After (if b then a else otherwise) next r
  one true a otherwise P r more h = h
  one false a otherwise P r more h = more h

  of_ways : (ws : List Way) (r : Result V Fault) → Claims claims takes ws r → After (first_claimed claims take ws) next r
  of_ways [] r h = h
  of_ways (w ∷ ws) r h = one (claims w.0) (take w.1) (first_claimed claims take ws) (Claims claims takes ws r) r (of_ways ws r) h

  several : (a : Answer A) (P : Result V Fault → Type 0) → ((r : Result V Fault) → P r → After a next r) → ((x : A) (f : Fault) → a ≡ Ok x → next x (Err f) → ⊥)
      → (r : Result V Fault) → TakesFirst P r → After (not_alone a) next r
  several a P more never (Ok v) h = absurd h
  several (Ok x) P more never (Err f) h = elim h [ inl first ↦ absurd (never x f refl (more (Err f) first)) | inr after ↦ after.1 ]
  several (Err p) P more never (Err f) h = elim h [ inl first ↦ more (Err f) first | inr after ↦ absurd (more (Ok after.0.0) after.0.1) ]

  -- what is taken of a character is answered with, whatever comes after
  abbrev pub Keeps : Type 0
  Keeps = (c : ℕ) (x : A) (f : Fault) → first_claimed claims take (char_ways c) ≡ Ok x → next x (Err f) → ⊥

  of_shown : Keeps → (shown : Shown) (r : Result V Fault) → Visited (Takes claims takes) shown r → After (taken claims take shown) next r
  of_shown keeps (Err f) r h = h
  of_shown keeps (Ok (showing.first_char c)) r h = several (first_claimed claims take (char_ways c)) (Claims claims takes (char_ways c)) (of_ways (char_ways c)) (keeps c) r h
  of_shown keeps (Ok s) r h = of_ways (ways s) r h

  pub as_read : Keeps → {E : Type 0} (request : Request) (fault : E → Fault) (s : Source) (r : Result V E) → Asks fault claims takes request s r → Meets fault (After (taken_from claims take request s) next) r
  as_read keeps request fault s r h = meets_more fault _ _ (of_shown keeps (shown request s)) r h

-- No source shows a character where an identifier is asked for.
module _ {V : Type 0} (next : List ℕ → Result V Fault → Type 0) where
  identifier_from : (s : Source) (r : Result V Fault) → Visited (Takes claims_str (λ x. After (take_identifier x) next)) (shown request.Identifier s) r → After (read_identifier s) next r
  identifier_from (attribute (av.S t)) r h = h
  identifier_from (attribute _) r h = h
  identifier_from (number_text t) r h = number_cases (λ x. Visited (Takes claims_str (λ x. After (take_identifier x) next)) x r → After (taken claims_str take_identifier x) next r) (λ z k. k) (λ z k. k) (λ t k. k) (λ f k. k) t h
  identifier_from _ r h = h

  pub identifier_read : {E : Type 0} (fault : E → Fault) (s : Source) (r : Result V E) → Asks fault claims_str (λ x. After (take_identifier x) next) request.Identifier s r → Meets fault (After (read_identifier s) next) r
  identifier_read fault s r h = meets_more fault _ _ (identifier_from s) r h
