-- What the scalar types read is permitted by reading at their shapes, and what they tell tells them apart, and nothing else does.
use Rattle.std.proofs.Common.{◌≡◌, ℕ, pos, List, Result, Ok, Err, refl, sym, ap, subst}
use Rattle.dynamo_shape.proofs.Common.{is_ok, ⊤, true≢false, Fault, IntegerKind, Datum, Answer}
use Rattle.dynamo_shape.proofs.Common.{Gives, read_bool, read_integer, read_char, read_string}
use Rattle.dynamo_shape.proofs.Common.{read_bytes, read_unit, conforms, AnswersByShape}
use Rattle.dynamo_shape.proofs.Common.{ReadsByShape, IsToldByValue, ToldAlike, into, Same}
use Rattle.dynamo_ser.specs.Datum as datum
use Rattle.dynamo_shape.specs.Shape as shape
use Rattle.dynamo_ser.specs.Parts.{bool_in, integer_in, number_in, text_in}
use Rattle.dynamo_shape.proofs.Alike.{same_refl}

pub no_fault : {T : Type 0} {v : T} {f : Fault} → ◌≡◌ {A = Result T Fault} (Ok v) (Err f) → ⊥
no_fault h = true≢false (ap is_ok h)

-- a call that gives what is read gives what is read by shape
pub given : {A T : Type 0} (C : Datum → Type 0) (seen : T → A) (make : A → Datum) (a : Answer A) (r : Result T Fault) → Gives seen a r → AnswersByShape C Same (λ v. make (seen v)) (into make a) r
given C seen make (Ok x) (Ok v) h = (make x, refl, λ _. subst (λ y. Same (make x) (make y)) (sym h) (same_refl (make x)))
given C seen make (Ok x) (Err f) h = h
given C seen make (Err f) (Ok v) h = absurd h
given C seen make (Err f) (Err g) h = h

-- ---- what a scalar's datum holds

-- ---- the types

pub bool_permitted : ReadsByShape shape.boolean datum.boolean (λ s. Gives (λ b. b) (read_bool s))
bool_permitted s r h = given (conforms shape.boolean) (λ b. b) datum.boolean (read_bool s) r h

pub bool_told : IsToldByValue shape.boolean datum.boolean (λ a b. a ≡ b)
bool_told a b _ _ h = ap bool_in h

pub bool_alike : ToldAlike shape.boolean datum.boolean (λ a b. a ≡ b)
bool_alike a b _ _ h = ap datum.boolean h

pub signed_permitted : (k : IntegerKind) → ReadsByShape (shape.integer k) (datum.integer k) (λ s. Gives (λ z. z) (read_integer k s))
signed_permitted k s r h = given (conforms (shape.integer k)) (λ z. z) (datum.integer k) (read_integer k s) r h

pub signed_told : (k : IntegerKind) → IsToldByValue (shape.integer k) (datum.integer k) (λ a b. a ≡ b)
signed_told k a b _ _ h = ap integer_in h

pub signed_alike : (k : IntegerKind) → ToldAlike (shape.integer k) (datum.integer k) (λ a b. a ≡ b)
signed_alike k a b _ _ h = ap (datum.integer k) h

pub unsigned_permitted : (k : IntegerKind) → ReadsByShape (shape.integer k) (λ n. datum.integer k (pos n)) (λ s. Gives pos (read_integer k s))
unsigned_permitted k s r h = given (conforms (shape.integer k)) pos (datum.integer k) (read_integer k s) r h

pub unsigned_told : (k : IntegerKind) → IsToldByValue (shape.integer k) (λ n. datum.integer k (pos n)) (λ a b. a ≡ b)
unsigned_told k a b _ _ h = ap number_in h

pub unsigned_alike : (k : IntegerKind) → ToldAlike (shape.integer k) (λ n. datum.integer k (pos n)) (λ a b. a ≡ b)
unsigned_alike k a b _ _ h = ap (λ n. datum.integer k (pos n)) h

pub char_permitted : ReadsByShape shape.char datum.char (λ s. Gives (λ c. c) (read_char s))
char_permitted s r h = given (conforms shape.char) (λ c. c) datum.char (read_char s) r h

pub char_told : IsToldByValue shape.char datum.char (λ a b. a ≡ b)
char_told a b _ _ h = ap number_in h

pub char_alike : ToldAlike shape.char datum.char (λ a b. a ≡ b)
char_alike a b _ _ h = ap datum.char h

pub text_permitted : {T : Type 0} (seen : T → List ℕ) → ReadsByShape shape.string (λ t. datum.string (seen t)) (λ s. Gives seen (read_string s))
text_permitted seen s r h = given (conforms shape.string) seen datum.string (read_string s) r h

pub text_told : {T : Type 0} (seen : T → List ℕ) → IsToldByValue shape.string (λ t. datum.string (seen t)) (λ a b. seen a ≡ seen b)
text_told seen a b _ _ h = ap text_in h

pub text_alike : {T : Type 0} (seen : T → List ℕ) → ToldAlike shape.string (λ t. datum.string (seen t)) (λ a b. seen a ≡ seen b)
text_alike seen a b _ _ h = ap datum.string h

pub bytes_permitted : {T : Type 0} (seen : T → List ℕ) → ReadsByShape shape.bytes (λ t. datum.bytes (seen t)) (λ s. Gives seen (read_bytes s))
bytes_permitted seen s r h = given (conforms shape.bytes) seen datum.bytes (read_bytes s) r h

pub bytes_told : {T : Type 0} (seen : T → List ℕ) → IsToldByValue shape.bytes (λ t. datum.bytes (seen t)) (λ a b. seen a ≡ seen b)
bytes_told seen a b _ _ h = ap text_in h

pub bytes_alike : {T : Type 0} (seen : T → List ℕ) → ToldAlike shape.bytes (λ t. datum.bytes (seen t)) (λ a b. seen a ≡ seen b)
bytes_alike seen a b _ _ h = ap datum.bytes h

pub unit_permitted : ReadsByShape {T = ⊤} shape.unit (λ _. datum.unit) (λ s. Gives (λ u. u) (read_unit s))
unit_permitted s r h = given (conforms shape.unit) (λ u. u) (λ _. datum.unit) (read_unit s) r h

pub unit_told : IsToldByValue {T = ⊤} shape.unit (λ _. datum.unit) (λ a b. a ≡ b)
unit_told a b _ _ h = refl

pub unit_alike : ToldAlike {T = ⊤} shape.unit (λ _. datum.unit) (λ a b. a ≡ b)
unit_alike a b _ _ h = refl
