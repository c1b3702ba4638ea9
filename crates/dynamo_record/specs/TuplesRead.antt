-- What tuples read, part by part: the last alone, or one in front of the others.
use Rattle.std.specs.Prelude.{◌≡◌, List, [], ◌∷◌, Result, Ok, Err}
use Rattle.std.proofs.Common.{refl, sym, ap, subst, ◌∙◌, inl, inr}
use Rattle.dynamo_value.specs.Fault.{Fault}
use Rattle.dynamo_ser.specs.Datum as datum
use Rattle.dynamo_de.specs.Answer as answer
use Rattle.dynamo_de.specs.Answer.{After}
use Rattle.dynamo_de.specs.Reading.{read_elements}
use Rattle.dynamo_de.specs.Reads.{ReadsFirst}
use Rattle.dynamo_de.specs.Source.{Source}
use Rattle.dynamo_shape.specs.Conforms.{conforms}
use Rattle.dynamo_shape.specs.Laws.{AnswersByShape, ReadsByShape}
use Rattle.dynamo_shape.specs.Read.{read}
use Rattle.dynamo_shape.specs.Same.{Same}
use Rattle.dynamo_shape.specs.Shape as shape
use Rattle.dynamo_shape.specs.Shape.{Shape}
use Rattle.dynamo_shape.proofs.Answered.{stops}
use Rattle.dynamo_shape.proofs.Scalars.{no_fault}
use Rattle.dynamo_record.specs.About.{About}
use Rattle.dynamo_record.specs.Fields.{ConformEach, SameData, read_fields}
use Rattle.dynamo_record.specs.InOrder.{ReadsInOrder}
use Rattle.dynamo_record.specs.Listed.{AboutList, Data}
use Rattle.dynamo_record.specs.Tuples.{about_tuple, one_part, more_parts, tuple_of_elements}
use Rattle.dynamo_record.specs.Tuples.{read_in_order}

-- what follows the parts reads no more, and gives a value that has them
abbrev pub Ends : {L V : Type 0} → (V → L) → (L → List Source → Result V Fault → Type 0) → Type 0
Ends {L} {V} parts next = (l : L) (more : List Source) (r : Result V Fault) → next l more r
    → (v : V) × (r ≡ Ok v) × (parts v ≡ l)

abbrev value_or : {A : Type 0} → Result A Fault → A → A
value_or (Ok x) y = x
value_or (Err f) y = y

-- the parts of a value that was read
pub parts_of : {L V : Type 0} (parts : V → L) (next : L → List Source → Result V Fault → Type 0)
    → Ends parts next
    → (l : L) (more : List Source) (v : V)
    → next l more (Ok v) → parts v ≡ l
parts_of parts next ends l more v h = let e = ends l more (Ok v) h in subst (λ w. parts w ≡ l) (sym (ap (λ r. value_or r v) e.1)) e.2

-- What is known of a part: of its values, and what may be answered on its source.
pub record Part (A : Type 0) : Type 1 where
  pub about : About A
  pub reads : Source → Result A Fault → Type 0
  pub by_shape : ReadsByShape about.shape about.tells reads

abbrev pub part : {A : Type 0} (a : About A) (reads : Source → Result A Fault → Type 0)
    → ReadsByShape a.shape a.tells reads
    → Part A
part a reads by_shape = record { about = a; reads = reads; by_shape = by_shape }

module _ {A : Type 0} (a : Part A) where
  -- what holds of whatever the rest answers holds of the whole
  pub first_reaches : {V : Type 0} (next : A → List Source → Result V Fault → Type 0)
      (P : V → Type 0)
      → ((x : A) (more : List Source) (v : V) → next x more (Ok v) → P v)
      → (xs : List Source) (v : V)
      → ReadsFirst a.reads next xs (Ok v)
      → P v
  unfolding ReadsFirst
  first_reaches next P f [] v h = absurd h
  first_reaches next P f (x ∷ xs) v (w, h, n) = f w xs v n

  -- the first is read, and then the others
  pub first_read : {V : Type 0} (ss : List Shape) (head : V → A) (tail : V → Data)
      (next : A → List Source → Result V Fault → Type 0)
      → ((x : A) (more : List Source) (v : V) → next x more (Ok v) → head v ≡ x)
      → ((x : A) (more : List Source) (r : Result V Fault) → next x more r
      → AnswersByShape (ConformEach ss) SameData tail (read_fields ss more) r)
      → (xs : List Source) (r : Result V Fault)
      → ReadsFirst a.reads next xs r
      → AnswersByShape (ConformEach (a.about.shape ∷ ss)) SameData
      (λ v. a.about.tells (head v) ∷ tail v) (read_fields (a.about.shape ∷ ss) xs) r
  unfolding ReadsFirst
  first_read ss head tail next is_head others [] (Ok v) h = absurd h
  first_read ss head tail next is_head others [] (Err f) h = h
  first_read ss head tail next is_head others (x ∷ xs) (Ok v) (y, h, n) =
      let p = a.by_shape x (Ok y) h in
      let q = others y xs (Ok v) n in
      let here : head v ≡ y = is_head y xs v n in (
        p.0 ∷ q.0,
        rw (p.1, q.1) refl,
        λ c. (subst (λ z. Same p.0 (a.about.tells z)) (sym here) (p.2 (subst (λ z. conforms a.about.shape (a.about.tells z)) here c.0)), q.2 c.1),
      )
  first_read ss head tail next is_head others (x ∷ xs) (Err f) (inl h) = stops Same SameData
      (read a.about.shape x) _ f (a.by_shape x (Err f) h)
  first_read ss head tail next is_head others (x ∷ xs) (Err f) (inr (y, h, n)) =
      let p = a.by_shape x (Ok y) h in
      rw p.1 (stops SameData SameData (read_fields ss xs) (λ ds. answer.value (p.0 ∷ ds)) f (others y xs (Err f) n))

-- The parts of a tuple, and what may be answered on its sources before something that follows.
pub record ReadParts (L : Type 0) : Type 1 where
  pub list : AboutList L
  pub reads : {V : Type 0} → (L → List Source → Result V Fault → Type 0) → List Source
      → Result V Fault → Type 0
  pub reaches : {V : Type 0} (next : L → List Source → Result V Fault → Type 0) (P : V → Type 0)
      → ((l : L) (more : List Source) (v : V) → next l more (Ok v) → P v)
      → (xs : List Source) (v : V) → reads next xs (Ok v) → P v
  pub each_read : {V : Type 0} (parts : V → L) (next : L → List Source → Result V Fault → Type 0)
      → Ends parts next
      → (xs : List Source) (r : Result V Fault)
      → reads next xs r
      → AnswersByShape (ConformEach (list.shapes [])) SameData (λ v. list.told (parts v) [])
      (read_fields (list.shapes []) xs) r

-- nothing more is read
pub over : {L V : Type 0} (l : L) (parts : V → L) (r : Result V Fault)
    → (v : V) × (r ≡ Ok v) × (parts v ≡ l)
    → AnswersByShape {V = V} (ConformEach []) SameData (λ _. []) (answer.value []) r
over l parts (Ok v) e = ([], refl, λ c. tt)
over l parts (Err f) e = absurd (no_fault (sym e.1))

abbrev pub read_one : {A : Type 0} → Part A → ReadParts A
read_one a = record {
  list = one_part a.about;
  reads = λ next. ReadsFirst a.reads next;
  reaches = first_reaches a;
  each_read = λ parts next ends. first_read a [] parts (λ _. []) next (parts_of parts next ends) (λ x more r n. over x parts r (ends x more r n));
}

module _ {A L T : Type 0} (split : T → A × L) (joined : A × L → T)
    (is_split : (t : A × L) → split (joined t) ≡ t) (a : Part A) (p : ReadParts L) where
  -- the parts of what follows
  pub split_parts : {V : Type 0} (parts : V → T) (t : A × L) (v : V) → parts v ≡ joined t
      → split (parts v) ≡ t
  split_parts parts t v e = ap split e ∙ is_split t

  abbrev pub read_more : ReadParts T
  read_more = record {
    list = more_parts split a.about p.list;
    reads = λ next. ReadsFirst a.reads (λ x. p.reads (λ l. next (joined (x, l))));
    reaches = λ next P f. first_reaches a (λ x. p.reads (λ l. next (joined (x, l)))) P (λ x. p.reaches (λ l. next (joined (x, l))) P (λ l. f (joined (x, l))));
    each_read = λ parts next ends.
        first_read a (p.list.shapes []) (λ v. (split (parts v)).0) (λ v. p.list.told (split (parts v)).1 []) (λ x. p.reads (λ l. next (joined (x, l))))
        (λ x. p.reaches (λ l. next (joined (x, l))) (λ v. (split (parts v)).0 ≡ x) (λ l more v n. ap (λ t. t.0) (split_parts parts (x, l) v (parts_of parts next ends (joined (x, l)) more v n))))
        (λ x. p.each_read (λ v. (split (parts v)).1) (λ l. next (joined (x, l))) (λ l more r n. let e = ends (joined (x, l)) more r n in (e.0, e.1, ap (λ t. t.1) (split_parts parts (x, l) e.0 e.2))));
  }

abbrev pub read_two : {A B : Type 0} → Part A → Part B → ReadParts (A × B)
read_two a b = read_more (λ t. t) (λ t. t) (λ _. refl) a (read_one b)

abbrev pub read_three : {A B C : Type 0} → Part A → Part B → Part C → ReadParts (A × B × C)
read_three a b c = read_more (λ t. (t.0, (t.1, t.2))) (λ t. (t.0, t.1.0, t.1.1)) (λ _. refl) a
    (read_two b c)

abbrev pub read_four : {A B C D : Type 0} → Part A → Part B → Part C → Part D
    → ReadParts (A × B × C × D)
read_four a b c d = read_more (λ t. (t.0, (t.1, t.2, t.3))) (λ t. (t.0, t.1.0, t.1.1, t.1.2))
    (λ _. refl) a (read_three b c d)

module _ {L : Type 0} (p : ReadParts L) where
  in_turn : (xs : List Source) (r : Result L Fault) → p.reads (λ l _ r. r ≡ Ok l) xs r
      → ReadsInOrder p.list xs r
  in_turn = p.each_read (λ l. l) (λ l _ r. r ≡ Ok l) (λ l more r e. (l, e, refl))

  from_elements : (a : answer.Answer (List Source)) (r : Result L Fault)
      → After a (p.reads (λ l _ r. r ≡ Ok l)) r
      → After a (ReadsInOrder p.list) r
  from_elements (Ok xs) r h = in_turn xs r h
  from_elements (Err f) r h = h

  pub tuple_by_shape : ReadsByShape (about_tuple p.list).shape (about_tuple p.list).tells
      (λ s. After (read_elements s) (p.reads (λ l _ r. r ≡ Ok l)))
  tuple_by_shape s r h = read_in_order shape.tuple datum.tuple tuple_of_elements p.list s r
      (from_elements (read_elements s) r h)
