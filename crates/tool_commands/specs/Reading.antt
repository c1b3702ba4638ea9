-- Reading to the end. One call gives some bytes, or none at the end of the input, or an error. A
-- call that was interrupted is made again. Another error fails, and so do calls that are used up
-- before the end. To keep bytes takes memory.
use Rattle.std.specs.Prelude.{◌≡◌, ◌≢◌, ◌≤◌, ◌⊎◌, ℕ, zero, suc, List, [], ◌∷◌, ◌++◌, take, Result}
use Rattle.std.specs.Prelude.{Ok, Err}
use Rattle.std.specs.Result.{result_map_both}
use Rattle.std.specs.IoError.{error_kind}
use Rattle.std.specs.declared.io.Error.{Error}
use Rattle.std.specs.declared.io.ErrorKind.TheVariants.{Interrupted}
use Rattle.tool_commands.specs.Failed.{Failed, read_failed, no_memory}

-- the most calls that are made
abbrev pub calls : ℕ
calls = 1048576

-- the least room that each call has
abbrev pub least_room : ℕ
least_room = 4096

-- what a call answers, by the bytes that it gives at the start of the buffer
abbrev pub given : {E : Type 0} → List ℕ → Result ℕ E → Result (List ℕ) E
given buf answer = result_map_both (λ n. take n buf) (λ e. e) answer

-- these bytes, and after them those of the rest
abbrev pub before : List ℕ → Result (List ℕ) Failed → Result (List ℕ) Failed
before bytes rest = result_map_both (λ bs. bytes ++ bs) (λ f. f) rest

-- What comes of a call's answer, where `next` is the reader that it leaves and `Rest` says what
-- comes of the calls after it.
unfoldable pub Follows : {R : Type 0} → (R → Result (List ℕ) Failed → R → Type 0)
    → Result (List ℕ) Error → R → Result (List ℕ) Failed → R → Type 0
Follows Rest (Err e) next whole end = ((error_kind e ≡ Interrupted) × Rest next whole end)
    ⊎ ((error_kind e ≢ Interrupted) × (whole ≡ Err read_failed) × (end ≡ next))
Follows Rest (Ok []) next whole end = (whole ≡ Ok []) × (end ≡ next)
Follows Rest (Ok (b ∷ bs)) next whole end = ((rest : Result (List ℕ) Failed) × Rest next rest end
    × (whole ≡ before (b ∷ bs) rest))
    ⊎ ((whole ≡ Err no_memory) × (end ≡ next))

-- What comes of at most so many calls, and the reader that they leave. `gives` says what a call
-- with some room may answer.
unfoldable pub Reads : {R : Type 0} → (R → ℕ → Result (List ℕ) Error → R → Type 0) → ℕ → R
    → Result (List ℕ) Failed → R → Type 0
Reads gives zero reader whole end = (whole ≡ Err read_failed) × (end ≡ reader)
Reads {R} gives (suc n) reader whole end = (room : ℕ) × (answer : Result (List ℕ) Error)
    × (next : R) × (least_room ≤ room) × gives reader room answer next
    × Follows (Reads gives n) answer next whole end
