-- What is known of sets whose members can be keys of maps, and which are written in the order of
-- their members.
use Rattle.std.specs.Prelude.{◌≡◌, Bool, List, Result}
use Rattle.std.proofs.Common.{sym, subst}
use Rattle.std.specs.List.{list_any}
use Rattle.std.specs.declared.cmp.Ordering.{Ordering}
use Rattle.dynamo_value.specs.Fault.{Fault}
use Rattle.dynamo_ser.specs.Datum.{Datum}
use Rattle.dynamo_ser.specs.Members.{members_in_order}
use Rattle.dynamo_ser.specs.Symbols.{SetKind}
use Rattle.dynamo_de.specs.Answer.{After}
use Rattle.dynamo_de.specs.Reading.{read_elements}
use Rattle.dynamo_de.specs.Reads.{ReadsSet}
use Rattle.dynamo_de.specs.Source.{Source}
use Rattle.dynamo_shape.specs.ByValue.{SameSet}
use Rattle.dynamo_shape.specs.Laws.{EqualAsTold, ReadsByShape}
use Rattle.dynamo_shape.specs.Shape as shape
use Rattle.dynamo_shape.specs.Shape.{Shape}
use Rattle.dynamo_shape.proofs.HashedSets.{members_any}
use Rattle.dynamo_shape.proofs.SetsRead.{ordered_list_permitted, ordered_set_permitted}
use Rattle.dynamo_shape.proofs.SetsTold.{told_list, told_set, ordered_list_told, ordered_list_alike}
use Rattle.dynamo_shape.proofs.SetsTold.{ordered_set_told, ordered_set_alike}
use Rattle.dynamo_record.specs.About.{About}
use Rattle.dynamo_record.specs.Keys.{AboutKey}

-- a set with these members, in their order, whose equality is this one
abbrev pub about_members : {K M : Type 0} (key : AboutKey K) (eq : K → K → Bool)
    → EqualAsTold key.about.tells eq
    → (members : M → List K) (has : M → K → Bool)
    → ((m : M) (q : K) → has m q ≡ list_any (eq q) (members m))
    → About M
about_members key eq equal members has is = record {
  shape = shape.ordered (shape.list key.about.shape);
  tells = told_list key.about.tells members;
  same = SameSet has;
  told_by_value = ordered_list_told key.about.tells eq equal members has is key.about.shape key.told_apart;
  told_alike = ordered_list_alike key.about.tells eq equal members has is key.about.shape;
}

-- the same, as a set of DynamoDB
abbrev pub about_members_in : {K M : Type 0} → SetKind → (key : AboutKey K) (eq : K → K → Bool)
    → EqualAsTold key.about.tells eq
    → (members : M → List K) (has : M → K → Bool)
    → ((m : M) (q : K) → has m q ≡ list_any (eq q) (members m))
    → About M
about_members_in k key eq equal members has is = record {
  shape = shape.ordered (shape.set k key.about.shape);
  tells = told_set k key.about.tells members;
  same = SameSet has;
  told_by_value = ordered_set_told key.about.tells eq equal members has is k key.about.shape key.told_apart;
  told_alike = ordered_set_alike key.about.tells eq equal members has is k key.about.shape;
}

-- a hashed set has a key if one of its members in their order is that key
pub is_in_order : {K : Type 0} (key : AboutKey K) (ks : List K) (q : K)
    → list_any (key.eq q) ks ≡ list_any (key.eq q) (members_in_order key.cmp ks)
is_in_order key ks q = members_any key.about.tells key.cmp key.eq key.equal_as_told
    key.ordered_as_told q ks

-- what a hashed set tells, by what its members tell and by their order
pub in_order_as_told : {K M : Type 0} (key : AboutKey K) (keys : M → List K) (tells : K → Datum)
    (cmp : K → K → Ordering)
    → key.about.tells ≡ tells → key.cmp ≡ cmp
    → ◌≡◌ {A = M → Datum} (told_list key.about.tells (λ m. members_in_order key.cmp (keys m)))
    (told_list tells (λ m. members_in_order cmp (keys m)))
in_order_as_told key keys tells cmp h k = λ i. told_list (h i)
    (λ m. members_in_order (k i) (keys m))

module _ {K M : Type 0} (key : AboutKey K) (members : M → List K) where
  -- what a set tells, by what its members tell
  pub members_as_told : (tells : K → Datum) → key.about.tells ≡ tells
      → ◌≡◌ {A = M → Datum} (told_list key.about.tells members) (told_list tells members)
  members_as_told tells h = λ i. told_list (h i) members

  module _ {R : Type 0} (test : R → K → K → Bool) (s : Shape) (tells : K → Datum) (own relation : R)
      (reads : Source → Result K Fault → Type 0) (is_shape : key.about.shape ≡ s)
      (is_told : key.about.tells ≡ tells) (is_own : own ≡ relation)
      (equal : EqualAsTold key.about.tells (test own)) (by_shape : ReadsByShape s tells reads)
      (has : R → M → K → Bool) (is : (m : M) (q : K) → has own m q ≡ list_any (test own q) (members m)) where
    keys_by_shape : ReadsByShape key.about.shape key.about.tells reads
    keys_by_shape = subst (λ t. ReadsByShape key.about.shape t reads) (sym is_told)
        (subst (λ s. ReadsByShape s tells reads) (sym is_shape) by_shape)

    -- a set reads by its shape, as its members do, whose equality it tests by its own relation
    pub members_read : ReadsByShape (shape.ordered (shape.list key.about.shape))
        (told_list key.about.tells members)
        (λ source. After (read_elements source) (ReadsSet (has relation) (test relation) reads))
    members_read =
        subst (λ r. ReadsByShape (shape.ordered (shape.list key.about.shape)) (told_list key.about.tells members) (λ source. After (read_elements source) (ReadsSet (has r) (test r) reads))) is_own
        (ordered_list_permitted key.about.shape key.about.tells reads keys_by_shape (test own) equal members (has own) is)

    pub members_in_read : (k : SetKind)
        → ReadsByShape (shape.ordered (shape.set k key.about.shape))
        (told_set k key.about.tells members)
        (λ source. After (read_elements source) (ReadsSet (has relation) (test relation) reads))
    members_in_read k =
        subst (λ r. ReadsByShape (shape.ordered (shape.set k key.about.shape)) (told_set k key.about.tells members) (λ source. After (read_elements source) (ReadsSet (has r) (test r) reads))) is_own
        (ordered_set_permitted key.about.shape key.about.tells reads keys_by_shape (test own) equal members (has own) is k)
