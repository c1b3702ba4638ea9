-- What an attribute value tells is written, and read back as it alone.
use Rattle.std.proofs.Common.{◌≡◌, ℕ, List, [], ◌∷◌, map, Result, Ok, Err, refl, sym, ap, subst, ◌∙◌, inl, inr}
use Rattle.dynamo_json.proofs.Common.{AllByRecursion, T, is_sorted, IsBytes, Data, items_of, Av}
use Rattle.dynamo_json.proofs.Common.{base64_text, Fault, HasBytes, ElementsHaveBytes}
use Rattle.dynamo_json.proofs.Common.{MembersHaveBytes, Prefix, prefix_text, text_cmp, Datum}
use Rattle.dynamo_json.proofs.Common.{json_datum, json_elements, json_pairs, collect, collect_onto}
use Rattle.dynamo_json.proofs.Common.{one_member, written, written_elements, written_pairs, Alike}
use Rattle.dynamo_json.proofs.Common.{sorted_alike, collect-sorted, EachDatumBack}
use Rattle.dynamo_json.proofs.Common.{EachItemDatumBack, strings, Tells, ElementsTell, MembersTell}
use Rattle.dynamo_json.proofs.Common.{json_of, elements_json, members_json, item_json, plain}
use Rattle.dynamo_json.proofs.Common.{ok_same, err_ok}
use Rattle.serde_json.specs.Data as json
use Rattle.dynamo_value.specs.Av as av
use Rattle.dynamo_value.specs.Prefix as prefix
use Rattle.dynamo_ser.specs.Datum as datum
use Rattle.dynamo_de.specs.ReadAttribute.{read_each, read_text, read_blob, read_attribute, read_elements, read_members}
use Rattle.dynamo_de.specs.Source.{values_of}
use Rattle.dynamo_ser.specs.Without.{Without}
use Rattle.dynamo_json.specs.KeyOrder.{entries, InOrder, ElementsInOrder, EachInOrder}
use Rattle.dynamo_json.specs.Square.{InSquare, ElementsInSquare, PairsInSquare, AgreeBy, WritesAs}
use Rattle.dynamo_json.proofs.Agree.{square}
use Rattle.dynamo_json.proofs.ReadBack.{blob_back}
use Rattle.dynamo_json.proofs.TellsPlain.{tells_plain, members_plain, map_plain}

-- ---- what is written: the DynamoDB JSON, as an attribute value

text_elements : List (List ℕ) → av.Elements
text_elements [] = av.no_elements
text_elements (t ∷ ts) = av.element (av.S t) (text_elements ts)

abbrev under : Prefix → Av → Av
under p content = one_member (prefix_text p) content

mutual
  form : Av → Av
  form (av.N text) = under prefix.N (av.S text)
  form (av.S text) = under prefix.S (av.S text)
  form (av.Boolean b) = under prefix.Bool (av.Boolean b)
  form (av.Null b) = under prefix.Null (av.Boolean b)
  form (av.B bytes) = under prefix.B (av.S (base64_text bytes))
  form (av.M ms) = under prefix.M (av.M (av.members_of (entry_forms ms)))
  form (av.L as') = under prefix.L (av.L (forms as'))
  form (av.Ss texts) = under prefix.Ss (av.L (text_elements texts))
  form (av.Ns texts) = under prefix.Ns (av.L (text_elements texts))
  form (av.Bs blobs) = under prefix.Bs (av.L (text_elements (map base64_text blobs)))

  forms : av.Elements → av.Elements
  forms av.no_elements = av.no_elements
  forms (av.element a as') = av.element (form a) (forms as')

  entry_forms : av.Members → List (List ℕ × Av)
  entry_forms av.no_members = []
  entry_forms (av.member key a ms) = (key, form a) ∷ entry_forms ms

same_keys : (ms : av.Members) → Alike (λ e a. Unit {0}) (entry_forms ms) (entries ms)
unfolding entry_forms
same_keys av.no_members = tt
same_keys (av.member key a ms) = (refl, tt, same_keys ms)

forms_in_order : (ms : av.Members) → T (is_sorted text_cmp (entries ms)) → collect (entry_forms ms) ≡ entry_forms ms
forms_in_order ms sorted = collect-sorted (entry_forms ms) (subst T (sym (sorted_alike (λ e a. Unit {0}) (entry_forms ms) (entries ms) (same_keys ms))) sorted)

texts_written : (texts : List (List ℕ)) → written_elements (json_elements (items_of (map json.string texts))) ≡ Ok (text_elements texts)
unfolding text_elements
texts_written [] = refl
texts_written (t ∷ ts) = rw (texts_written ts) refl

mutual
  unfolding form forms entry_forms

  is_written : (a : Av) → InOrder a → WritesAs (json_of a) (form a)
  is_written (av.N text) o = refl
  is_written (av.S text) o = refl
  is_written (av.Boolean b) o = refl
  is_written (av.Null b) o = refl
  is_written (av.B bytes) o = refl
  is_written (av.M ms) o = rw (entries_written ms o.1, forms_in_order ms o.0) refl
  is_written (av.L as') o = rw (elements_written as' o) refl
  is_written (av.Ss texts) o = rw (texts_written texts) refl
  is_written (av.Ns texts) o = rw (texts_written texts) refl
  is_written (av.Bs blobs) o = rw (texts_written (map base64_text blobs)) refl

  elements_written : (as' : av.Elements) → ElementsInOrder as' → written_elements (json_elements (elements_json as')) ≡ Ok (forms as')
  elements_written av.no_elements o = refl
  elements_written (av.element a as') o = rw (is_written a o.0, elements_written as' o.1) refl

  entries_written : (ms : av.Members) → EachInOrder ms → written_pairs (json_pairs (members_json ms)) ≡ Ok (entry_forms ms)
  entries_written av.no_members o = refl
  entries_written (av.member key a ms) o = rw (is_written a o.0, entries_written ms o.1) refl

-- ---- that is read

texts_read : (texts : List (List ℕ)) → read_each read_text (values_of (text_elements texts)) ≡ Ok texts
unfolding text_elements
texts_read [] = refl
texts_read (t ∷ ts) = rw (texts_read ts) refl

blobs_read : (blobs : List (List ℕ)) → AllByRecursion IsBytes blobs → read_each read_blob (values_of (text_elements (map base64_text blobs))) ≡ Ok blobs
unfolding text_elements
blobs_read [] h = refl
blobs_read (b ∷ bs) h = rw (blob_back b h.0, blobs_read bs h.1) refl

members_again : (ms : av.Members) → av.members_of (entries ms) ≡ ms
members_again av.no_members = refl
members_again (av.member key a ms) = ap (av.member key a) (members_again ms)

collected_again : (ms : av.Members) → T (is_sorted text_cmp (entries ms)) → av.members_of (collect (entries ms)) ≡ ms
collected_again ms sorted = ap av.members_of (collect-sorted (entries ms) sorted) ∙ members_again ms

mutual
  unfolding form forms entry_forms

  is_read : (a : Av) → HasBytes a → InOrder a → read_attribute (form a) ≡ Ok a
  is_read (av.N text) h o = refl
  is_read (av.S text) h o = refl
  is_read (av.Boolean b) h o = refl
  is_read (av.Null b) h o = refl
  is_read (av.B bytes) h o = rw (blob_back bytes h) refl
  is_read (av.M ms) h o = rw (members_read [] ms h o.1, collected_again ms o.0) refl
  is_read (av.L as') h o = rw (elements_read as' h o) refl
  is_read (av.Ss texts) h o = rw (texts_read texts) refl
  is_read (av.Ns texts) h o = rw (texts_read texts) refl
  is_read (av.Bs blobs) h o = rw (blobs_read blobs h) refl

  elements_read : (as' : av.Elements) → ElementsHaveBytes as' → ElementsInOrder as' → read_elements (forms as') ≡ Ok as'
  elements_read av.no_elements h o = refl
  elements_read (av.element a as') h o = rw (is_read a h.0 o.0, elements_read as' h.1 o.1) refl

  members_read : (so_far : List (List ℕ × Av)) (ms : av.Members) → MembersHaveBytes ms → EachInOrder ms
      → read_members so_far (av.members_of (entry_forms ms)) ≡ Ok (av.members_of (collect_onto so_far (entries ms)))
  members_read so_far av.no_members h o = refl
  members_read so_far (av.member key a ms) h o = rw (is_read a h.0 o.0) (members_read _ ms h.1 o.1)

-- ---- in whatever order it is told

pair_in_square : (ps : datum.Pairs) (key : List ℕ) (d : Datum) (others : datum.Pairs) → Without ps (datum.string key) d others → InSquare d → PairsInSquare others → PairsInSquare ps
pair_in_square datum.no_pairs key d others w h k = absurd w
pair_in_square (datum.pair l e ps) key d others w h k = elim w [
  | inl x ↦ (subst InSquare (sym x.1) h, subst PairsInSquare x.2 k)
  | inr y ↦ let rest = subst PairsInSquare y.1 k in (rest.0, pair_in_square ps key d y.0 y.2 h rest.1)
]

strings_in_square : (texts : List (List ℕ)) → ElementsInSquare (strings texts)
strings_in_square [] = tt
strings_in_square (t ∷ ts) = (tt, strings_in_square ts)

mutual
  in_square : (a : Av) (d : Datum) → Tells a d → InSquare d
  in_square (av.N text) d h = rw h (tt, tt)
  in_square (av.S text) d h = rw h (tt, tt)
  in_square (av.Boolean b) d h = rw h (tt, tt)
  in_square (av.Null b) d h = rw h (tt, tt)
  in_square (av.B bytes) d h = rw h (tt, tt)
  in_square (av.Ss texts) d h = rw h (strings_in_square texts, tt)
  in_square (av.Ns texts) d h = rw h (strings_in_square texts, tt)
  in_square (av.Bs blobs) d h = rw h (strings_in_square (map base64_text blobs), tt)
  in_square (av.L as') d h = subst InSquare (sym h.1) (elements_in_square as' h.0 h.2, tt)
  in_square (av.M ms) d h = subst InSquare (sym h.1) (members_in_square ms h.0 h.2, tt)

  elements_in_square : (as' : av.Elements) (ds : datum.Elements) → ElementsTell as' ds → ElementsInSquare ds
  elements_in_square av.no_elements ds h = rw h tt
  elements_in_square (av.element a as') ds h = subst ElementsInSquare (sym h.2) (in_square a h.0 h.3, elements_in_square as' h.1 h.4)

  members_in_square : (ms : av.Members) (ps : datum.Pairs) → MembersTell ms ps → PairsInSquare ps
  members_in_square av.no_members ps h = rw h tt
  members_in_square (av.member key a ms) ps h = pair_in_square ps key h.0 h.1 h.2 (in_square a h.0 h.3) (members_in_square ms h.1 h.4)

-- what the plain JSON is written as is written
agreed : (p : Result Data Fault) (w : Result Av Fault) (j : Data) (e : Av) → AgreeBy WritesAs p w → p ≡ Ok j → WritesAs j e → w ≡ Ok e
agreed (Ok k) (Ok b) j e agree is writes = ap Ok (ok_same (sym agree ∙ ap (λ x. written (json_datum x)) (ok_same is) ∙ writes))
agreed (Ok k) (Err g) j e agree is writes = absurd agree
agreed (Err g) (Ok b) j e agree is writes = absurd agree
agreed (Err g) (Err i) j e agree is writes = absurd (err_ok is)

-- ---- the whole

pub attribute_back : EachDatumBack
attribute_back a d h o t =
    let is_plain = tells_plain a d o t in
    (form a, agreed (plain d) (written d) (json_of a) (form a) (square d (in_square a d t)) is_plain (is_written a o), is_read a h o, is_plain)

pub item_back : EachItemDatumBack
item_back ms d h o t =
    let is_plain : plain d ≡ Ok (item_json ms) = ap plain t.1 ∙ map_plain ms t.0 o.0 (members_plain ms t.0 o.1 t.2) in
    let e = av.M (av.members_of (entry_forms ms)) in
    let writes : WritesAs (item_json ms) e = rw (entries_written ms o.1, forms_in_order ms o.0) refl in
    let agree = square d (subst InSquare (sym t.1) (members_in_square ms t.0 t.2)) in
    let reads = members_read [] ms h o.1 ∙ ap Ok (collected_again ms o.0) in
    (e, agreed (plain d) (written d) (item_json ms) e agree is_plain writes, reads, is_plain)
