-- Events that come one after another.
use Rattle.std.proofs.Common.{◌≡◌, ℕ, ◌+◌, ◌<◌, ◌≤◌, List, [], ◌∷◌, ◌++◌, map, length, take, get_or, Some, None, refl, sym, ap, ◌∙◌, subst, append_assoc, append-nil, arith}
use Rattle.std.proofs.lemmas.List.{take_more, take_all}
use Rattle.serde.specs.Event.{Event, Log, Logs, seq_begins, seq_ends, map_begins, map_ends, variant_key}
use Rattle.serde.specs.declared.name.Case.TheVariants.{AsIs}
use Rattle.dynamo_ser.specs.Symbols.{SetKind}
use Rattle.dynamo_serde.specs.Symbol.{word, a_set}
use Rattle.dynamo_serde.specs.Told.{in_seq, in_map, under}
use Rattle.dynamo_serde.specs.Value.{Logged, each, set_events}

pub none : (log : Log) → Logged [] log log
none None = tt
none (Some es) = ap Some (sym (append-nil es))

pub one : (e : Event) (old new : Log) → Logs old new e → Logged (e ∷ []) old new
one e None new h = tt
one e (Some es) new h = h

pub both : (es fs : List Event) (old mid new : Log) → Logged es old mid → Logged fs mid new → Logged (es ++ fs) old new
both es fs None mid new h k = tt
both es fs (Some before) mid new h k =
    let run : Logged fs (Some (before ++ es)) new = subst (λ log. Logged fs log new) h k in run ∙ ap Some (append_assoc before es fs)

pub then : (e : Event) (es : List Event) (old mid new : Log) → Logs old mid e → Logged es mid new → Logged (e ∷ es) old new
then e es old mid new h k = both (e ∷ []) es old mid new (one e old mid h) k

pub in_seq_logged : (n : ℕ) (es : List Event) (old first last new : Log) → Logs old first (seq_begins (Some n)) → Logged es first last → Logs last new seq_ends → Logged (in_seq n es) old new
in_seq_logged n es old first last new h k l =
    then (seq_begins (Some n)) (es ++ seq_ends ∷ []) old first new h (both es (seq_ends ∷ []) first last new k (one seq_ends last new l))

pub in_map_logged : (n : ℕ) (es : List Event) (old first last new : Log) → Logs old first (map_begins (Some n)) → Logged es first last → Logs last new map_ends → Logged (in_map n es) old new
in_map_logged n es old first last new h k l =
    then (map_begins (Some n)) (es ++ map_ends ∷ []) old first new h (both es (map_ends ∷ []) first last new k (one map_ends last new l))

pub under_logged : (name : List ℕ) (es : List Event) (old first named last new : Log)
    → Logs old first (map_begins (Some 1)) → Logs first named (variant_key name AsIs) → Logged es named last → Logs last new map_ends → Logged (under name es) old new
under_logged name es old first named last new h k l m =
    in_map_logged 1 (variant_key name AsIs ∷ es) old first last new h (then (variant_key name AsIs) es first named last k l) m

-- ---- the elements of a set

each_push : (send : List ℕ → List Event) (xs : List (List ℕ)) (x : List ℕ) → each send (xs ++ x ∷ []) ≡ each send xs ++ send x
each_push send [] x = append-nil (send x)
each_push send (y ∷ xs) x = ap (λ es. send y ++ es) (each_push send xs x) ∙ sym (append_assoc (send y) (each send xs) (send x))

pub map_push : {A B : Type 0} (f : A → B) (xs : List A) (x : A) → map f (xs ++ x ∷ []) ≡ map f xs ++ f x ∷ []
map_push f [] x = refl
map_push f (y ∷ xs) x = ap (λ ys. f y ∷ ys) (map_push f xs x)

pub length-map : {A B : Type 0} (f : A → B) (xs : List A) → length (map f xs) ≡ length xs
length-map f [] = refl
length-map f (x ∷ xs) = omega (arith, length-map f xs)

module _ {A : Type 0} (send : List ℕ → List Event) (f : A → List ℕ) where
  -- of all, those before i are sent
  abbrev pub SentUpTo : List A → ℕ → Log → Log → Type 0
  SentUpTo xs i old new = Logged (each send (map f (take i xs))) old new

  pub more : (xs : List A) (i : ℕ) (x : A) (old mid new : Log) → i < length xs → x ≡ get_or xs i x → SentUpTo xs i old mid → Logged (send (f x)) mid new → SentUpTo xs (i + 1) old new
  more xs i x old mid new lt is h k =
      let taken : take (i + 1) xs ≡ take i xs ++ x ∷ [] = take_more xs i x lt ∙ ap (λ y. take i xs ++ y ∷ []) (sym is) in
      let same : each send (map f (take (i + 1) xs)) ≡ each send (map f (take i xs)) ++ send (f x) =
      ap (λ ys. each send (map f ys)) taken ∙ ap (each send) (map_push f (take i xs) x) ∙ each_push send (map f (take i xs)) (f x) in
      subst (λ es. Logged es old new) (sym same) (both (each send (map f (take i xs))) (send (f x)) old mid new h k)

  pub all : (xs ys : List A) (i : ℕ) (old new : Log) → ys ≡ xs → length ys ≤ i → SentUpTo ys i old new → Logged (each send (map f xs)) old new
  all xs ys i old new same end h = subst (λ zs. Logged (each send (map f zs)) old new) (take_all i ys end ∙ same) h

-- a set, from the events of its elements
pub set_logged : {A : Type 0} (kind : SetKind) (send : List ℕ → List Event) (f : A → List ℕ) (xs ys : List A) (i n : ℕ) (old first named begun last ended new : Log)
    → ys ≡ xs → n ≡ length xs → length ys ≤ i
    → Logs old first (map_begins (Some 1)) → Logs first named (variant_key (word (a_set kind)) AsIs) → Logs named begun (seq_begins (Some n))
    → SentUpTo send f ys i begun last → Logs last ended seq_ends → Logs ended new map_ends → Logged (set_events kind send (map f xs)) old new
set_logged kind send f xs ys i n old first named begun last ended new same len end opened symbol begins sent ends closes =
    let count : n ≡ length (map f xs) = len ∙ sym (length-map f xs) in
    let inside = in_seq_logged (length (map f xs)) (each send (map f xs)) named begun last ended (subst (λ m. Logs named begun (seq_begins (Some m))) count begins) (all send f xs ys i begun last same end sent) ends in
    under_logged (word (a_set kind)) (in_seq (length (map f xs)) (each send (map f xs))) old first named ended new opened symbol inside closes
