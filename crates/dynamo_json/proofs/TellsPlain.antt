-- The plain JSON of each datum that an attribute value tells is its DynamoDB JSON.
use Rattle.std.proofs.Common.{◌≡◌, ℕ, List, [], ◌∷◌, map, Ok, refl, sym, ap, subst, ◌∙◌, inl, inr}
use Rattle.dynamo_json.proofs.Common.{T, is_sorted, Data, items_of, Av, base64_text, Prefix}
use Rattle.dynamo_json.proofs.Common.{text_cmp, Datum, collect, Alike, sorted_alike, strings, Tells}
use Rattle.dynamo_json.proofs.Common.{ElementsTell, MembersTell, json_of, elements_json}
use Rattle.dynamo_json.proofs.Common.{members_json, under, plain, plain_elements, plain_pairs}
use Rattle.dynamo_json.proofs.Common.{ok_same, bind_ok}
use Rattle.serde_json.specs.Data as json
use Rattle.dynamo_value.specs.Av as av
use Rattle.dynamo_value.specs.Prefix as prefix
use Rattle.dynamo_ser.specs.Datum as datum
use Rattle.dynamo_ser.specs.AttributeDatum as told
use Rattle.dynamo_ser.specs.Key.{key_text}
use Rattle.dynamo_ser.specs.Without.{Without}
use Rattle.dynamo_json.specs.JsonBack as object
use Rattle.dynamo_json.specs.KeyOrder.{entries, InOrder, ElementsInOrder, EachInOrder}
use Rattle.dynamo_json.proofs.JsonBack.{members_again}
use Rattle.dynamo_write.proofs.Orders.{OutOf, AnyOrder, collect_order}

strings_plain : (texts : List (List ℕ)) → plain_elements (strings texts) ≡ Ok (items_of (map json.string texts))
strings_plain [] = refl
strings_plain (text ∷ texts) = rw (strings_plain texts) refl

under_plain : (p : Prefix) (d : Datum) (j : Data) → plain d ≡ Ok j → plain (told.under p d) ≡ Ok (under p j)
under_plain p d j h = rw h refl

-- ---- a pair that is anywhere

abbrev Named : Type 0
Named = List ℕ × Data

-- the plain pairs are those of the others and, in any place, this one
abbrev PlainWith : datum.Pairs → Named → List Named → Type 0
PlainWith ps e others = (es : List Named) × (plain_pairs ps ≡ Ok es) × OutOf es e others

one_more : (k d : Datum) (ps : datum.Pairs) (key : List ℕ) (j : Data) (es : List Named)
    → key_text k ≡ Ok key → plain d ≡ Ok j → plain_pairs ps ≡ Ok es → plain_pairs (datum.pair k d ps) ≡ Ok ((key, j) ∷ es)
one_more k d ps key j es a b c = rw (a, b, c) refl

later_plain : (k d : Datum) (ps : datum.Pairs) (e : Named) (es : List Named) (rest : datum.Pairs) → plain_pairs (datum.pair k d rest) ≡ Ok es
    → ((xs : List Named) → plain_pairs rest ≡ Ok xs → PlainWith ps e xs) → PlainWith (datum.pair k d ps) e es
later_plain k d ps e es rest h f =
    let key = bind_ok (key_text k) _ es h in
    let here = bind_ok (plain d) _ es key.2 in
    let behind = bind_ok (plain_pairs rest) _ es here.2 in
    let found = f behind.0 behind.1 in
    ((key.0, here.0) ∷ found.0, one_more k d ps key.0 here.0 found.0 key.1 here.1 found.1, inr (behind.0, sym (ok_same behind.2), found.2))

pair_plain : (ps : datum.Pairs) (key : List ℕ) (d : Datum) (others : datum.Pairs) (j : Data) (es : List Named)
    → Without ps (datum.string key) d others → plain d ≡ Ok j → plain_pairs others ≡ Ok es → PlainWith ps (key, j) es
pair_plain datum.no_pairs key d others j es w h k = absurd w
pair_plain (datum.pair l e ps) key d others j es w h k = elim w [
  | inl x ↦ ((key, j) ∷ es, rw (x.0, x.1, h, ap plain_pairs (sym x.2) ∙ k) refl, inl (refl, refl))
  | inr y ↦ later_plain l e ps (key, j) es y.0 (ap plain_pairs (sym y.1) ∙ k) (λ xs q. pair_plain ps key d y.0 j xs y.2 h q)
]

-- ---- maps

abbrev PlainInAnyOrder : datum.Pairs → av.Members → Type 0
PlainInAnyOrder ps ms = (es : List Named) × (plain_pairs ps ≡ Ok es) × AnyOrder (object.entries (members_json ms)) es

same_keys : (ms : av.Members) → Alike (λ j a. Unit {0}) (object.entries (members_json ms)) (entries ms)
same_keys av.no_members = tt
same_keys (av.member key a ms) = (refl, tt, same_keys ms)

pub map_plain : (ms : av.Members) (ps : datum.Pairs) → T (is_sorted text_cmp (entries ms)) → PlainInAnyOrder ps ms
    → plain (datum.map ps) ≡ Ok (json.object (members_json ms))
map_plain ms ps sorted r =
    let es = object.entries (members_json ms) in
    let in_order : T (is_sorted text_cmp es) = subst T (sym (sorted_alike (λ j a. Unit {0}) es (entries ms) (same_keys ms))) sorted in
    let same : collect r.0 ≡ es = collect_order es r.0 in_order r.2 in
    rw (r.1, same, members_again (members_json ms)) refl

-- ---- the whole

mutual
  pub tells_plain : (a : Av) (d : Datum) → InOrder a → Tells a d → plain d ≡ Ok (json_of a)
  tells_plain (av.N text) d o h = rw h refl
  tells_plain (av.S text) d o h = rw h refl
  tells_plain (av.Boolean b) d o h = rw h refl
  tells_plain (av.Null b) d o h = rw h refl
  tells_plain (av.B bytes) d o h = rw h refl
  tells_plain (av.Ss texts) d o h = rw (h, strings_plain texts) refl
  tells_plain (av.Ns texts) d o h = rw (h, strings_plain texts) refl
  tells_plain (av.Bs blobs) d o h = rw (h, strings_plain (map base64_text blobs)) refl
  tells_plain (av.L as') d o h = rw (h.1, elements_plain as' h.0 o h.2) refl
  tells_plain (av.M ms) d o h =
      ap plain h.1 ∙ under_plain prefix.M (datum.map h.0) (json.object (members_json ms)) (map_plain ms h.0 o.0 (members_plain ms h.0 o.1 h.2))

  elements_plain : (as' : av.Elements) (ds : datum.Elements) → ElementsInOrder as' → ElementsTell as' ds → plain_elements ds ≡ Ok (elements_json as')
  elements_plain av.no_elements ds o h = rw h refl
  elements_plain (av.element a as') ds o h = rw (h.2, tells_plain a h.0 o.0 h.3, elements_plain as' h.1 o.1 h.4) refl

  pub members_plain : (ms : av.Members) (ps : datum.Pairs) → EachInOrder ms → MembersTell ms ps → PlainInAnyOrder ps ms
  members_plain av.no_members ps o h = ([], rw h refl, refl)
  members_plain (av.member key a ms) ps o h =
      let rest = members_plain ms h.1 o.1 h.4 in
      let here = pair_plain ps key h.0 h.1 (json_of a) rest.0 h.2 (tells_plain a h.0 o.0 h.3) rest.1 in
      (here.0, here.1, (rest.0, here.2, rest.2))
