-- Reading call by call: what comes of the calls that are left, after the bytes so far, comes of all the calls.
use Rattle.std.proofs.Common.{◌≡◌, ◌≢◌, ℕ, suc, ◌+◌, ◌-◌, ◌<◌, ◌≤◌, List, [], ◌∷◌, ◌++◌, length, Result, Ok, Err, refl, ap, inl, inr, arith, append_assoc, append-nil, sym}
use Rattle.std.specs.IoError.{error_kind}
use Rattle.std.specs.declared.io.Error.{Error}
use Rattle.std.specs.declared.io.ErrorKind.TheVariants.{Interrupted}
use Rattle.tool_commands.specs.Failed.{Failed, read_failed, no_memory}
use Rattle.tool_commands.specs.Reading.{Reads, Follows, before, least_room}

-- So many calls of `all` were made since the reader was `first`. They gave `bytes` and left the reader `now`.
pub record Leads {R : Type 0} (gives : R → ℕ → Result (List ℕ) Error → R → Type 0) (all : ℕ) (first : R) (made : ℕ) (bytes : List ℕ) (now : R) : Type 0 where
  pub whole : (left : ℕ) (rest : Result (List ℕ) Failed) (end : R) → made + left ≡ all → Reads gives left now rest end → Reads gives all first (before bytes rest) end

before_none : (rest : Result (List ℕ) Failed) → before [] rest ≡ rest
before_none (Ok bs) = refl
before_none (Err f) = refl

before_both : (xs ys : List ℕ) (rest : Result (List ℕ) Failed) → before xs (before ys rest) ≡ before (xs ++ ys) rest
before_both xs ys (Ok bs) = ap Ok (sym (append_assoc xs ys bs))
before_both xs ys (Err f) = refl

pub leads_at_first : {R : Type 0} (gives : R → ℕ → Result (List ℕ) Error → R → Type 0) (all : ℕ) (first : R) → Leads gives all first 0 [] first
leads_at_first gives all first = record {
  whole = λ left rest end count reads. let same : left ≡ all = omega arith in rw (before_none rest, sym same) reads;
}

-- one call more
step : {R : Type 0} {gives : R → ℕ → Result (List ℕ) Error → R → Type 0} {all made room : ℕ} {first now next : R} {bytes : List ℕ} {answer : Result (List ℕ) Error}
    → Leads gives all first made bytes now → least_room ≤ room → gives now room answer next → (left : ℕ) → suc made + left ≡ all → (whole : Result (List ℕ) Failed) (end : R)
    → Follows (Reads gives left) answer next whole end → Reads gives all first (before bytes whole) end
step {gives = gives} {room = room} {now = now} {next = next} {answer = answer} leads enough gave left count whole end follows =
    let made_it : Reads gives (suc left) now whole end = unfold Reads in (room, answer, next, enough, gave, follows) in
    leads.whole (suc left) whole end (omega arith) made_it

pub ends : {R : Type 0} {gives : R → ℕ → Result (List ℕ) Error → R → Type 0} {all made room : ℕ} {first now next : R} {bytes : List ℕ} {answer : Result (List ℕ) Error}
    → Leads gives all first made bytes now → made < all → least_room ≤ room → gives now room answer next → answer ≡ Ok [] → Reads gives all first (Ok bytes) next
unfolding Follows
ends {gives = gives} {all = all} {made = made} {first = first} {next = next} {bytes = bytes} {answer = answer} leads less enough gave none =
    let follows : Follows (Reads gives (all - suc made)) answer next (Ok []) next = rw none (refl, refl) in
    let whole : Reads gives all first (Ok (bytes ++ [])) next = step leads enough gave (all - suc made) (omega arith) (Ok []) next follows in
    rw (← append-nil bytes) whole

pub fails : {R : Type 0} {gives : R → ℕ → Result (List ℕ) Error → R → Type 0} {all made room : ℕ} {first now next : R} {bytes : List ℕ} {answer : Result (List ℕ) Error} {e : Error}
    → Leads gives all first made bytes now → made < all → least_room ≤ room → gives now room answer next → answer ≡ Err e → error_kind e ≢ Interrupted → Reads gives all first (Err read_failed) next
unfolding Follows
fails {gives = gives} {all = all} {made = made} {next = next} {answer = answer} leads less enough gave is other =
    let follows : Follows (Reads gives (all - suc made)) answer next (Err read_failed) next = rw is (inr (other, refl, refl)) in
    step leads enough gave (all - suc made) (omega arith) (Err read_failed) next follows

pub lacks_memory : {R : Type 0} {gives : R → ℕ → Result (List ℕ) Error → R → Type 0} {all made room : ℕ} {first now next : R} {bytes : List ℕ} (chunk : List ℕ)
    → Leads gives all first made bytes now → made < all → least_room ≤ room → gives now room (Ok chunk) next → 0 < length chunk → Reads gives all first (Err no_memory) next
unfolding Follows
lacks_memory [] leads less enough gave some = absurd (omega arith)
lacks_memory {gives = gives} {all = all} {made = made} {next = next} (b ∷ bs) leads less enough gave some =
    let follows : Follows (Reads gives (all - suc made)) (Ok (b ∷ bs)) next (Err no_memory) next = inr (refl, refl) in
    step leads enough gave (all - suc made) (omega arith) (Err no_memory) next follows

pub used_up : {R : Type 0} {gives : R → ℕ → Result (List ℕ) Error → R → Type 0} {all made : ℕ} {first now : R} {bytes : List ℕ}
    → Leads gives all first made bytes now → made ≡ all → Reads gives all first (Err read_failed) now
used_up {gives = gives} {now = now} leads done =
    let none : Reads gives 0 now (Err read_failed) now = unfold Reads in (refl, refl) in
    leads.whole 0 (Err read_failed) now (omega arith) none

pub leads_past_interruption : {R : Type 0} {gives : R → ℕ → Result (List ℕ) Error → R → Type 0} {all made room : ℕ} {first now next : R} {bytes : List ℕ} {answer : Result (List ℕ) Error} {e : Error}
    → Leads gives all first made bytes now → least_room ≤ room → gives now room answer next → answer ≡ Err e → error_kind e ≡ Interrupted → Leads gives all first (suc made) bytes next
leads_past_interruption {gives = gives} {next = next} {answer = answer} leads enough gave is interrupted = record {
  whole = λ left rest end count reads.
      let follows : Follows (Reads gives left) answer next rest end = unfold Follows in rw is (inl (interrupted, reads)) in
      step leads enough gave left count rest end follows;
}

pub leads_on : {R : Type 0} {gives : R → ℕ → Result (List ℕ) Error → R → Type 0} {all made room : ℕ} {first now next : R} {bytes : List ℕ} (chunk : List ℕ)
    → Leads gives all first made bytes now → least_room ≤ room → gives now room (Ok chunk) next → 0 < length chunk → Leads gives all first (suc made) (bytes ++ chunk) next
leads_on [] leads enough gave some = absurd (omega arith)
leads_on {gives = gives} {next = next} {bytes = bytes} (b ∷ bs) leads enough gave some = record {
  whole = λ left rest end count reads.
      let follows : Follows (Reads gives left) (Ok (b ∷ bs)) next (before (b ∷ bs) rest) end = unfold Follows in inl (rest, reads, refl) in
      rw (← before_both bytes (b ∷ bs) rest) (step leads enough gave left count (before (b ∷ bs) rest) end follows);
}
