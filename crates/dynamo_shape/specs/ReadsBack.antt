-- What it is that written data read back.
use Rattle.std.specs.Prelude.{◌≡◌, ◌↔◌, ℕ, suc, Result, Ok}
use Rattle.dynamo_value.specs.Av.{Av, M, Members, no_members, member}
use Rattle.dynamo_value.specs.Fault.{Fault}
use Rattle.dynamo_ser.specs.Datum.{Datum, map, Pairs, no_pairs, pair}
use Rattle.dynamo_write.specs.Written.{written}
use Rattle.dynamo_de.specs.Answer.{value}
use Rattle.dynamo_de.specs.Source.{Source, attribute}
use Rattle.dynamo_shape.specs.Kept.{kept}
use Rattle.dynamo_shape.specs.Permits.{Permits, SameAnswer, FaultsOrSame}
use Rattle.dynamo_shape.specs.Read.{read}
use Rattle.dynamo_shape.specs.Same.{Same}
use Rattle.dynamo_shape.specs.Shape.{Shape}

-- the datum is written, and what is read from that is the same as what is kept of it
abbrev pub ReadsBack : Shape → Datum → Type 0
ReadsBack s d = (a : Av) × (e : Datum) × (written d ≡ Ok a) × (read s (attribute a) ≡ value e) × Same (kept d) e

-- reading by the shape permits the answer
abbrev pub Permitted : Shape → Source → Result Datum Fault → Type 0
Permitted s source r = Permits Same (read s source) r

-- reading permits what is kept of the datum, and nothing else
abbrev pub ReadsExactly : Shape → Datum → Av → Type 0
ReadsExactly s d a = (r : Result Datum Fault) → (Permitted s (attribute a) r ↔ Permits Same (value (kept d)) r)

abbrev pub count : Members → ℕ
count no_members = 0
count (member name a ms) = suc (count ms)

abbrev pub count_pairs : Pairs → ℕ
count_pairs no_pairs = 0
count_pairs (pair k d ps) = suc (count_pairs ps)

-- a map of these pairs is written with as many members
abbrev pub KeepsCount : Pairs → Type 0
KeepsCount ps = (ms : Members) × (written (map ps) ≡ Ok (M ms)) × (count ms ≡ count_pairs ps)

-- two answers that reading permits are one answer, the texts of messages and the order of map entries aside
abbrev pub IsDetermined : Shape → Source → Type 0
IsDetermined s source = (r q : Result Datum Fault) → Permitted s source r → Permitted s source q → SameAnswer Same r q

-- two answers that reading permits are both faults, or the same data
abbrev pub WalksAgree : Shape → Source → Type 0
WalksAgree s source = (r q : Result Datum Fault) → Permitted s source r → Permitted s source q → FaultsOrSame Same r q
