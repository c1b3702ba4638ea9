-- What the calls of a builder say. A builder looks ahead: `gives b pieces r` says that r is answered where these pieces
-- follow, and then the end. So taking a piece is told by putting it before what follows.
use Rattle.std.specs.Prelude.{◌≡◌, ℕ, List, Result, Ok, Err, MatchResult}
use Rattle.dynamo_value.specs.Fault.{Fault}
use Rattle.dynamo_value.specs.declared.error.Error.{Error}
use Rattle.dynamo_ser.specs.Datum.{Datum, Pairs, pair}
use Rattle.dynamo_ser.specs.Key.{key_text}
use Rattle.dynamo_ser.specs.Writes.{Writes, WritesKey}

-- a builder whose answers are those of the whole; or a fault, which is the whole's whatever its pieces are
abbrev pub Begins : {B P A E : Type 0} → (B → P → Result A E → Type 0) → (P → Result A E → Type 0) → Result B E → Type 0
Begins {B} {P} {A} {E} gives whole r = MatchResult r
    (λ b. (pieces : P) (answer : Result A E) → gives b pieces answer → whole pieces answer)
    (λ e. (pieces : P) → whole pieces (Err e))

-- the builder holds what it held
abbrev pub Keeps : {B P A E : Type 0} → (B → P → Result A E → Type 0) → B → B → Type 0
Keeps {B} {P} {A} {E} gives old new = (pieces : P) (answer : Result A E) → gives new pieces answer → gives old pieces answer

-- the piece that `before` puts before what follows is taken; or it is at fault, whatever follows, and the builder holds
-- what it held
abbrev pub TakesPiece : {B P A E U : Type 0} → (B → P → Result A E → Type 0) → B → B → (P → P) → Result U E → Type 0
TakesPiece {B} {P} {A} {E} {U} gives old new before r = MatchResult r
    (λ _. (pieces : P) (answer : Result A E) → gives new pieces answer → gives old (before pieces) answer)
    (λ e. ((pieces : P) → gives old (before pieces) (Err e)) × Keeps gives old new)

-- what was written for a datum is taken in its place
abbrev pub TakesWritten : {B P A E U : Type 0} → (Datum → Result A E → Type 0) → A → (B → P → Result A E → Type 0) → B → B → (Datum → P → P) → Result U E → Type 0
TakesWritten outcome written gives old new before r = (d : Datum) → outcome d (Ok written) → TakesPiece gives old new (before d) r

-- a fault of the datum is a fault of all that begins with it
abbrev pub PassesOn : {B P A E : Type 0} → (E → Fault) → (Datum → Result A E → Type 0) → (B → P → Result A E → Type 0) → B → (Datum → P → P) → Type 0
PassesOn {B} {P} {A} {E} fault outcome gives b before = (d : Datum) (e : E) (pieces : P) → Writes fault (Unit {0}) outcome d (Err e) → gives b (before d pieces) (Err e)

-- ---- maps

-- a fault of the key, as the map's own error tells it, is a fault of all that begins with a pair of that key
abbrev pub PassesOnKey : {B A E : Type 0} → (B → Pairs → Result A E → Type 0) → B → Error → E → Type 0
PassesOnKey gives b error e = (k v : Datum) (pairs : Pairs) → WritesKey k (Err error) → gives b (pair k v pairs) (Err e)

-- after a key that has a text, a fault of the value is a fault of all that begins with the pair
abbrev pub PassesOnValue : {B A E : Type 0} → (E → Fault) → (Datum → Result A E → Type 0) → (B → Pairs → Result A E → Type 0) → B → Type 0
PassesOnValue {B} {A} {E} fault outcome gives b = (k v : Datum) (text : List ℕ) (e : E) (pairs : Pairs) → key_text k ≡ Ok text → Writes fault (Unit {0}) outcome v (Err e) → gives b (pair k v pairs) (Err e)

-- what was written for a value is taken under the text of a key
abbrev pub TakesEntry : {B A E U : Type 0} → List ℕ → (Datum → Result A E → Type 0) → A → (B → Pairs → Result A E → Type 0) → B → B → Result U E → Type 0
TakesEntry text outcome written gives old new r = (k v : Datum) → key_text k ≡ Ok text → outcome v (Ok written) → TakesPiece gives old new (pair k v) r

-- ---- one content

-- the serializer of a content, whose faults are the whole's; or a fault, whatever the content
abbrev pub BeginsContent : {S A E : Type 0} → (S → Datum → Result A E → Type 0) → (Datum → Datum) → S → S → Result S E → Type 0
BeginsContent {S} {A} {E} outcome whole content s r = MatchResult r
    (λ c. (c ≡ content) × ((d : Datum) (e : E) → outcome content d (Err e) → outcome s (whole d) (Err e)))
    (λ e. (d : Datum) → outcome s (whole d) (Err e))
