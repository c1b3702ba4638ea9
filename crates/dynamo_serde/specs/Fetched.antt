-- An attribute value of any kind, as the field modules read it by the steps of a format: which
-- steps are made, in which order, and what each gives. Its kind is asked for first: one of several
-- names comes, and its place among them, from 0, is that in the order N, S, BOOL, B, NULL, M, L,
-- SS, NS, BS. Which names were asked for is left open.
use Rattle.std.specs.Prelude.{◌≡◌, ℕ, List, [], ◌∷◌, Bool, None, false}
use Rattle.serde.specs.Event.{Event, boolean, text, octets, seq_begins, seq_ends, map_begins}
use Rattle.serde.specs.Event.{map_ends, key_begins}
use Rattle.serde.specs.Steps as steps
use Rattle.serde.specs.declared.deserializer.Deserializer.{Deserializer}
use Rattle.serde.specs.declared.name.Name.{Name}
use Rattle.dynamo_value.specs.Av as av
use Rattle.dynamo_value.specs.Av.{Av, Members, Elements, members_of}
use Rattle.dynamo_write.specs.Collect.{collect}
use Rattle.dynamo_serde.specs.Value.{in_order, members_in_order, elements_in_order}

-- each is read in turn
abbrev pub InTurn : {A D : Type 0} → (A → D → D → Type 0) → List A → D → D → Type 0
InTurn reads [] old new = new ≡ old
InTurn {A} {D} reads (x ∷ xs) old new = (mid : D) × reads x old mid × InTurn reads xs mid new

module _ {F E K : Type 0} (gives : F → List ℕ → Event → F → Type 0) (stays : F → F → Type 0) where
  abbrev Step : Event → Deserializer F E K → Deserializer F E K → Type 0
  Step e old new = steps.Gives gives old e new

  -- a byte string of a sequence, once the reader saw that an element comes
  abbrev pub ReadsBlob : List ℕ → Deserializer F E K → Deserializer F E K → Type 0
  ReadsBlob blob old new = (looked : Deserializer F E K) × steps.Stays stays old looked
      × Step (octets blob) looked new

  -- a sequence from its beginning to its end
  abbrev pub ReadsSeq : {A : Type 0} → (A → Deserializer F E K → Deserializer F E K → Type 0)
      → List A → Deserializer F E K → Deserializer F E K → Type 0
  ReadsSeq reads xs old new = (begun last : Deserializer F E K) × Step (seq_begins None) old begun
      × InTurn reads xs begun last × Step seq_ends last new

  abbrev pub ReadsBlobs : List (List ℕ) → Deserializer F E K → Deserializer F E K → Type 0
  ReadsBlobs = ReadsSeq ReadsBlob

  module _ (picks : F → List ℕ → Bool → List Name → ℕ → F → Type 0) where
    -- of the names that were asked for, the one at this place came
    abbrev pub Asks : ℕ → Deserializer F E K → Deserializer F E K → Type 0
    Asks kind old new = (names : List Name) × steps.Picks picks old false names kind new

    -- a string of this kind, which is that of strings or of numbers
    abbrev pub ReadsText : ℕ → List ℕ → Deserializer F E K → Deserializer F E K → Type 0
    ReadsText kind s old new = (looked asked : Deserializer F E K) × steps.Stays stays old looked
        × Asks kind looked asked × Step (text s) asked new

    -- The members of a map are an entry each, of its key and its value, and the elements of a list
    -- come one by one.
    abbrev mutual
      pub ReadsValue : Av → Deserializer F E K → Deserializer F E K → Type 0
      ReadsValue (av.N s) old new = (asked : Deserializer F E K) × Asks 0 old asked
          × Step (text s) asked new
      ReadsValue (av.S s) old new = (asked : Deserializer F E K) × Asks 1 old asked
          × Step (text s) asked new
      ReadsValue (av.Boolean b) old new = (asked : Deserializer F E K) × Asks 2 old asked
          × Step (boolean b) asked new
      ReadsValue (av.B blob) old new = (asked : Deserializer F E K) × Asks 3 old asked
          × Step (octets blob) asked new
      ReadsValue (av.Null b) old new = (asked : Deserializer F E K) × Asks 4 old asked
          × Step (boolean b) asked new
      ReadsValue (av.M ms) old new = (asked : Deserializer F E K) × Asks 5 old asked
          × ((begun last : Deserializer F E K) × Step (map_begins None) asked begun
          × ReadsMembers ms begun last × Step map_ends last new)
      ReadsValue (av.L as') old new = (asked : Deserializer F E K) × Asks 6 old asked
          × ((begun last : Deserializer F E K) × Step (seq_begins None) asked begun
          × ReadsElements as' begun last × Step seq_ends last new)
      ReadsValue (av.Ss xs) old new = (asked : Deserializer F E K) × Asks 7 old asked
          × ReadsSeq (ReadsText 1) xs asked new
      ReadsValue (av.Ns xs) old new = (asked : Deserializer F E K) × Asks 8 old asked
          × ReadsSeq (ReadsText 0) xs asked new
      ReadsValue (av.Bs xs) old new = (asked : Deserializer F E K) × Asks 9 old asked
          × ReadsBlobs xs asked new

      pub ReadsMembers : Members → Deserializer F E K → Deserializer F E K → Type 0
      ReadsMembers av.no_members old new = new ≡ old
      ReadsMembers (av.member k a ms) old new =
          (entry keyed mid : Deserializer F E K) × Step key_begins old entry × Step (text k) entry keyed × ReadsValue a keyed mid × ReadsMembers ms mid new

      pub ReadsElements : Elements → Deserializer F E K → Deserializer F E K → Type 0
      ReadsElements av.no_elements old new = new ≡ old
      ReadsElements (av.element a as') old new =
          (looked mid : Deserializer F E K) × steps.Stays stays old looked × ReadsValue a looked mid × ReadsElements as' mid new

    abbrev pub ReadsMap : Members → Deserializer F E K → Deserializer F E K → Type 0
    ReadsMap ms old new = (begun last : Deserializer F E K) × Step (map_begins None) old begun
        × ReadsMembers ms begun last × Step map_ends last new

    abbrev pub ReadsList : Elements → Deserializer F E K → Deserializer F E K → Type 0
    ReadsList as' old new = (begun last : Deserializer F E K) × Step (seq_begins None) old begun
        × ReadsElements as' begun last × Step seq_ends last new

    -- What is returned: the tree that was read, with the members of each map in order; of equal
    -- keys the last value stays.
    abbrev pub Fetches : Av → Deserializer F E K → Deserializer F E K → Type 0
    Fetches a old new = (read : Av) × (in_order read ≡ a) × ReadsValue read old new

    abbrev pub FetchesMap : Members → Deserializer F E K → Deserializer F E K → Type 0
    FetchesMap ms old new = (read : Members) × (members_of (collect (members_in_order read)) ≡ ms)
        × ReadsMap read old new

    abbrev pub FetchesList : Elements → Deserializer F E K → Deserializer F E K → Type 0
    FetchesList as' old new = (read : Elements) × (elements_in_order read ≡ as')
        × ReadsList read old new

    abbrev pub FetchesTexts : ℕ → List (List ℕ) → Deserializer F E K → Deserializer F E K → Type 0
    FetchesTexts kind = ReadsSeq (ReadsText kind)
