use Rattle.std.proofs.Common.{◌≡◌, ◌-◌, ◌∷◌, Some, None, Err, map, string_bytes, refl, subst, sym, ap, ◌∙◌, rules, arith}
use Rattle.dynamo_json.proofs.Common.{err_from_is_err_and, after_end_array, read_key, HasBytes}
use Rattle.dynamo_json.proofs.Common.{prefix_of, prefixes, fault_of, view, entries_view}
use Rattle.dynamo_json.proofs.Common.{members_view, N, S, B, Null, L, Ss, Ns, Bs, the_lemmas}
use Rattle.dynamo_json.proofs.Common.{inserted, ValueIsNext, ContentIsNext, MembersAreNext, json_of}
use Rattle.dynamo_json.proofs.Common.{members_json}
use Rattle.json.specs.Token as token
use Rattle.serde_json.specs.Data as json
use Rattle.dynamo_value.specs.Av as av
use Rattle.json.specs.Reads.{token_of}
use Rattle.dynamo_value.specs.PrefixView.{prefix_view}
use Rattle.dynamo_value.specs.declared.prefix.Prefix.{Prefix}
use Rattle.dynamo_value.specs.declared.attribute_value.AttributeValue.{Bool}
use Rattle.dynamo_value.proofs.Views.{view_list, view_map, view_strings, view_numbers, view_blobs}
use Rattle.dynamo_json.proofs.Followed.{stops, stops_for_memory, Inside, content_decodes, element_next, elements_left, member_next, members_left, value_of_member, begun, keyed, content_next, not_closed}
use Rattle.dynamo_json.proofs.InText.{text_stands, flag_stands, list_stands, map_stands, items_next, items_done, members_next, members_done, pushed, all_and, single}
use Rattle.dynamo_json.proofs.ReadBack.{among}
use Rattle.dynamo_json.proofs.Written.{elements_json-elements_of, elements_have_bytes, members_json-put, put_has_bytes}
use Rattle.dynamo_json.proofs.from_text.+follow.Goals as goal

-- ---- what is under a prefix

pub content-returns-in_ok-from_str-in-N-String-clause-value : goal.content-returns-in_ok-from_str-in-N-String-clause-value
content-returns-in_ok-from_str-in-N-String-clause-value t c =
    let first : c.args.reader.now ≡ token_of c.in_ok-text.field-0 ∷ c.next.new.self = grind arith in
    let read : c.args.reader.now ≡ token.string c.in-N-String.text.now ∷ c.next.new.self = first ∙ ap (λ k. token_of k ∷ c.next.new.self) c.in-N-String.is-1 in
    let seen : view (N c.in_ok-from_str-in-N-String.field-0) ≡ av.N c.in-N-String.text.now = search (rules, the_lemmas, c.in_ok-from_str-in-N-String.ensures.ok) in
    text_stands c.args.depth c.args.reader.now c.next.new.self c.next.new.self (prefix_view c.args.prefix) (view (N c.in_ok-from_str-in-N-String.field-0)) c.in-N-String.text.now read (rw (c.in-N-String.is-0, seen) refl)

pub content-returns-in_ok-from_str-in-S-String-clause-value : goal.content-returns-in_ok-from_str-in-S-String-clause-value
content-returns-in_ok-from_str-in-S-String-clause-value t c =
    let first : c.args.reader.now ≡ token_of c.in_ok-text.field-0 ∷ c.next.new.self = grind arith in
    let read : c.args.reader.now ≡ token.string c.in-S-String.text.now ∷ c.next.new.self = first ∙ ap (λ k. token_of k ∷ c.next.new.self) c.in-S-String.is-1 in
    let seen : view (S c.in_ok-from_str-in-S-String.field-0) ≡ av.S c.in-S-String.text.now = search (rules, the_lemmas, c.in_ok-from_str-in-S-String.ensures.ok) in
    text_stands c.args.depth c.args.reader.now c.next.new.self c.next.new.self (prefix_view c.args.prefix) (view (S c.in_ok-from_str-in-S-String.field-0)) c.in-S-String.text.now read (rw (c.in-S-String.is-0, seen) refl)

pub content-returns-in_ok-decode-in-B-String-clause-value : goal.content-returns-in_ok-decode-in-B-String-clause-value
content-returns-in_ok-decode-in-B-String-clause-value t c =
    let first : c.args.reader.now ≡ token_of c.in_ok-text.field-0 ∷ c.next.new.self = grind arith in
    let read : c.args.reader.now ≡ token.string c.in-B-String.text.now ∷ c.next.new.self = first ∙ ap (λ k. token_of k ∷ c.next.new.self) c.in-B-String.is-1 in
    let seen : view (B c.in_ok-decode-in-B-String.field-0) ≡ av.B c.in_ok-decode-in-B-String.field-0.items = search (rules, the_lemmas) in
    text_stands c.args.depth c.args.reader.now c.next.new.self c.next.new.self (prefix_view c.args.prefix) (view (B c.in_ok-decode-in-B-String.field-0)) c.in-B-String.text.now read (rw (c.in-B-String.is-0, seen, c.in_ok-decode-in-B-String.ensures.exact) refl)

pub content-returns-in-Bool-Bool-clause-value : goal.content-returns-in-Bool-Bool-clause-value
content-returns-in-Bool-Bool-clause-value t c =
    let first : c.args.reader.now ≡ token_of c.in_ok-text.field-0 ∷ c.next.new.self = grind arith in
    let read : c.args.reader.now ≡ token.boolean c.in-Bool-Bool.flag ∷ c.next.new.self = first ∙ ap (λ k. token_of k ∷ c.next.new.self) c.in-Bool-Bool.is-1 in
    let seen : view (Bool c.in-Bool-Bool.flag) ≡ av.Boolean c.in-Bool-Bool.flag = search (rules, the_lemmas) in
    flag_stands c.args.depth c.args.reader.now c.next.new.self c.next.new.self (prefix_view c.args.prefix) (view (Bool c.in-Bool-Bool.flag)) c.in-Bool-Bool.flag read (rw (c.in-Bool-Bool.is-0, seen) refl)

pub content-returns-in-Null-Bool-clause-value : goal.content-returns-in-Null-Bool-clause-value
content-returns-in-Null-Bool-clause-value t c =
    let first : c.args.reader.now ≡ token_of c.in_ok-text.field-0 ∷ c.next.new.self = grind arith in
    let read : c.args.reader.now ≡ token.boolean c.in-Null-Bool.flag ∷ c.next.new.self = first ∙ ap (λ k. token_of k ∷ c.next.new.self) c.in-Null-Bool.is-1 in
    let seen : view (Null c.in-Null-Bool.flag) ≡ av.Null c.in-Null-Bool.flag = search (rules, the_lemmas) in
    flag_stands c.args.depth c.args.reader.now c.next.new.self c.next.new.self (prefix_view c.args.prefix) (view (Null c.in-Null-Bool.flag)) c.in-Null-Bool.flag read (rw (c.in-Null-Bool.is-0, seen) refl)

pub content-returns-in_ok-members-in-M-BeginObject-clause-value : goal.content-returns-in_ok-members-in-M-BeginObject-clause-value
content-returns-in_ok-members-in-M-BeginObject-clause-value t c =
    let first : c.args.reader.now ≡ token_of c.in_ok-text.field-0 ∷ c.next.new.self = grind arith in
    let read : c.args.reader.now ≡ token.begin_object ∷ c.next.new.self = first ∙ ap (λ k. token_of k ∷ c.next.new.self) c.in-M-BeginObject.is-1 in
    map_stands c.args.depth c.args.reader.now c.next.new.self c.members.new.reader (prefix_view c.args.prefix) (view c.fitted.result) _ (omega arith) read c.in_ok-members-in-M-BeginObject.ensures.members (rw (c.in-M-BeginObject.is-0, c.fitted.ensures, view_map c.in_ok-members-in-M-BeginObject.field-0) refl)

pub content-returns-in_ok-elements-in-L-BeginArray-clause-value : goal.content-returns-in_ok-elements-in-L-BeginArray-clause-value
content-returns-in_ok-elements-in-L-BeginArray-clause-value t c =
    let first : c.args.reader.now ≡ token_of c.in_ok-text.field-0 ∷ c.next.new.self = grind arith in
    let read : c.args.reader.now ≡ token.begin_array ∷ c.next.new.self = first ∙ ap (λ k. token_of k ∷ c.next.new.self) c.in-L-BeginArray.is-1 in
    list_stands c.args.depth c.args.reader.now c.next.new.self c.elements.new.reader (prefix_view c.args.prefix) (view (L c.in_ok-elements-in-L-BeginArray.field-0)) _ (omega arith) read c.in_ok-elements-in-L-BeginArray.ensures.elements (rw (c.in-L-BeginArray.is-0, view_list c.in_ok-elements-in-L-BeginArray.field-0) refl)

pub content-returns-in_ok-strings-in-Ss-BeginArray-clause-value : goal.content-returns-in_ok-strings-in-Ss-BeginArray-clause-value
content-returns-in_ok-strings-in-Ss-BeginArray-clause-value t c =
    let first : c.args.reader.now ≡ token_of c.in_ok-text.field-0 ∷ c.next.new.self = grind arith in
    let read : c.args.reader.now ≡ token.begin_array ∷ c.next.new.self = first ∙ ap (λ k. token_of k ∷ c.next.new.self) c.in-Ss-BeginArray.is-1 in
    list_stands c.args.depth c.args.reader.now c.next.new.self c.strings.new.reader (prefix_view c.args.prefix) (view (Ss c.in_ok-strings-in-Ss-BeginArray.field-0)) _ (omega arith) read (c.in_ok-strings-in-Ss-BeginArray.ensures.strings (c.args.depth - 1)) (rw (c.in-Ss-BeginArray.is-0, view_strings c.in_ok-strings-in-Ss-BeginArray.field-0) refl)

pub content-returns-in_ok-strings-in-Ns-BeginArray-clause-value : goal.content-returns-in_ok-strings-in-Ns-BeginArray-clause-value
content-returns-in_ok-strings-in-Ns-BeginArray-clause-value t c =
    let first : c.args.reader.now ≡ token_of c.in_ok-text.field-0 ∷ c.next.new.self = grind arith in
    let read : c.args.reader.now ≡ token.begin_array ∷ c.next.new.self = first ∙ ap (λ k. token_of k ∷ c.next.new.self) c.in-Ns-BeginArray.is-1 in
    list_stands c.args.depth c.args.reader.now c.next.new.self c.strings-in-Ns-BeginArray.new.reader (prefix_view c.args.prefix) (view (Ns c.in_ok-strings-in-Ns-BeginArray.field-0)) _ (omega arith) read (c.in_ok-strings-in-Ns-BeginArray.ensures.strings (c.args.depth - 1)) (rw (c.in-Ns-BeginArray.is-0, view_numbers c.in_ok-strings-in-Ns-BeginArray.field-0) refl)

pub content-returns-in_ok-blobs-in-Bs-BeginArray-clause-value : goal.content-returns-in_ok-blobs-in-Bs-BeginArray-clause-value
content-returns-in_ok-blobs-in-Bs-BeginArray-clause-value t c =
    let first : c.args.reader.now ≡ token_of c.in_ok-text.field-0 ∷ c.next.new.self = grind arith in
    let read : c.args.reader.now ≡ token.begin_array ∷ c.next.new.self = first ∙ ap (λ k. token_of k ∷ c.next.new.self) c.in-Bs-BeginArray.is-1 in
    list_stands c.args.depth c.args.reader.now c.next.new.self c.blobs.new.reader (prefix_view c.args.prefix) (view (Bs c.in_ok-blobs-in-Bs-BeginArray.field-0)) _ (omega arith) read (c.in_ok-blobs-in-Bs-BeginArray.ensures.blobs (c.args.depth - 1)) (rw (c.in-Bs-BeginArray.is-0, view_blobs c.in_ok-blobs-in-Bs-BeginArray.field-0) refl)

-- ---- arrays

pub elements-elements-preserved : goal.elements-elements-preserved
elements-elements-preserved t c =
    let l = c.elements in
    let going : (after_end_array l.reader ≡ None) × (c.take_end_array.new.self ≡ l.reader) = grind arith in
    let a = c.in_ok-value.value in
    let here = rw going.1 at c.in_ok-value.ensures.value in
    let less = rw going.1 at c.in_ok-value.ensures.shorter in
    let views = pushed view l.elements.items c.push.new.self.items a (view a) c.in_ok-push.ensures.items refl in
    let old = map view l.elements.items in
    record {
      left = items_next c.args.depth c.args.reader.now (map json_of old) l.reader c.value.new.reader (json_of (view a)) _ l.invariant.left going.0 here less
          (pushed json_of old (map view c.push.new.self.items) (view a) (json_of (view a)) views refl);
      bytes = rw views (all_and HasBytes old (view a) l.invariant.bytes c.in_ok-value.ensures.bytes);
      next = λ h. elements_left c.args.depth l.reader c.value.new.reader (json_of (view a)) (element_next c.args.depth l.reader (l.invariant.next h) going.0) here;
    }

pub elements-returns-clause-bytes : goal.elements-returns-clause-bytes
elements-returns-clause-bytes t c = rw c.list.ensures (elements_have_bytes (map view c.elements.elements.items) c.elements.invariant.bytes)

pub elements-returns-clause-elements : goal.elements-returns-clause-elements
elements-returns-clause-elements t c =
    let l = c.elements in
    let done = items_done c.args.depth c.args.reader.now (map json_of (map view l.elements.items)) l.reader c.take_end_array.new.self l.invariant.left (grind arith) in
    rw c.list.ensures (done ∙ ap (λ js. Some (js, c.take_end_array.new.self)) (sym (elements_json-elements_of (map view l.elements.items))))

-- ---- objects

pub members-members-preserved : goal.members-members-preserved
members-members-preserved t c =
    let l = c.members in
    let k = c.in-Some.key.now in
    let s = c.next_key.new.self in
    let named : read_key l.reader ≡ Some (Some k, s) = grind arith in
    let name = c.in_ok-name.name in
    let a = c.in_ok-value.value in
    let held = inserted l.map c.insert.new.self name a c.in_ok-insert.ensures.updates in
    let put = ap (λ es. members_json (av.members_of es)) held ∙ members_json-put (string_bytes name) (view a) (entries_view l.map.entries)
    ∙ ap (λ key. json.put key (json_of (view a)) (members_json (members_view l.map.entries))) c.in_ok-name.ensures.ok in
    record {
      left = members_next c.args.depth c.args.reader.now (members_json (members_view l.map.entries)) l.reader s c.value.new.reader k (json_of (view a)) _ l.invariant.left named
          c.in_ok-value.ensures.value c.in_ok-value.ensures.shorter put;
      bytes = rw held (put_has_bytes (string_bytes name) (view a) (entries_view l.map.entries) c.in_ok-value.ensures.bytes l.invariant.bytes);
      next = λ h. members_left c.args.depth s c.value.new.reader (json_of (view a)) (member_next c.args.depth l.reader s k (l.invariant.next h) named) c.in_ok-value.ensures.value;
    }

pub members-returns-clause-members : goal.members-returns-clause-members
members-returns-clause-members t c =
    let l = c.members in
    rw c.in_ok-map.ensures (members_done c.args.depth c.args.reader.now (members_json (members_view l.map.entries)) l.reader c.next_key.new.self l.invariant.left (grind arith))

-- ---- the object of one member

pub value-returns-clause-value : goal.value-returns-clause-value
value-returns-clause-value t c =
    let s = c.begin_object.new.reader in
    let u = c.next_key.new.self in
    let k = c.in-Some.key.now in
    let p = prefix_view c.in-Some-named.prefix in
    let named : read_key s ≡ Some (Some k, u) = grind arith in
    let content = c.in_ok-value.ensures.value in
    let known : prefix_of k ≡ Some p = search (rules, c.named.ensures, c.in-Some-named.is) in
    let key = among prefixes k p known in
    let stands = single c.args.depth c.args.reader.now s u c.content.new.reader c.end_object.new.reader k content.0 (omega arith) c.in_ok-begin_object.ensures.ok named content.1
    c.in_ok-value.ensures.shorter c.in_ok-end_object.ensures.ok in
    stands ∙ ap (λ d. Some (d, c.end_object.new.reader)) (ap (λ name. json.object (json.member name content.0 json.no_members)) key ∙ sym content.2)

-- ---- where it stops

pub content-returns-in_err-decode-in-B-String-clause-follows : goal.content-returns-in_err-decode-in-B-String-clause-follows
content-returns-in_err-decode-in-B-String-clause-follows t c =
    let ts = c.args.reader.now in
    let d = c.args.depth in
    let text = c.in-B-String.text.now in
    let first : ts ≡ token_of c.in_ok-text.field-0 ∷ c.next.new.self = grind arith in
    let read : ts ≡ token.string text ∷ c.next.new.self = first ∙ ap (λ k. token_of k ∷ c.next.new.self) c.in-B-String.is-1 in
    let failed = err_from_is_err_and c.from_residual-in_err-decode-in-B-String.result c.from_residual-in_err-decode-in-B-String.ensures.1 in
    stops_for_memory c.from_residual-in_err-decode-in-B-String.result failed.0 (ContentIsNext d (prefix_view c.args.prefix) ts) failed.1 (λ h.
    failed.2 (content_decodes d ts c.next.new.self text (fault_of c.in_err-decode-in-B-String.field-0.0)
    (subst (λ (p : Prefix). ContentIsNext d (prefix_view p) ts) c.in-B-String.is-0 h) read c.in_err-decode-in-B-String.ensures.err))

pub members-returns-in_err-value-clause-follows : goal.members-returns-in_err-value-clause-follows
members-returns-in_err-value-clause-follows t c =
    let l = c.members in
    let d = c.args.depth in
    let s = c.next_key.new.self in
    let k = c.in-Some.key.now in
    let named : read_key l.reader ≡ Some (Some k, s) = grind arith in
    let failed = err_from_is_err_and c.from_residual-in_err-value.result c.from_residual-in_err-value.ensures.1 in
    stops c.from_residual-in_err-value.result c.in_err-value.field-0.0 (ValueIsNext d s) (MembersAreNext d c.args.reader.now) (failed.1 ∙ ap Err failed.2)
    (λ h. value_of_member d s (member_next d l.reader s k (l.invariant.next h) named)) c.in_err-value.ensures.follows

pub value-returns-in_err-value-clause-follows : goal.value-returns-in_err-value-clause-follows
value-returns-in_err-value-clause-follows t c =
    let ts = c.args.reader.now in
    let d = c.args.depth in
    let s = c.begin_object.new.reader in
    let u = c.next_key.new.self in
    let k = c.in-Some.key.now in
    let p = prefix_view c.in-Some-named.prefix in
    let named : read_key s ≡ Some (Some k, u) = grind arith in
    let known : prefix_of k ≡ Some p = search (rules, c.named.ensures, c.in-Some-named.is) in
    let failed = err_from_is_err_and c.from_residual-in_err-value.result c.from_residual-in_err-value.ensures.1 in
    stops c.from_residual-in_err-value.result c.in_err-value.field-0.0 (ContentIsNext (d - 1) p u) (ValueIsNext d ts) (failed.1 ∙ ap Err failed.2)
    (λ h. content_next (d - 1) k u p (keyed (d - 1) s u k (begun d ts s h c.in_ok-begin_object.ensures.ok) named) known) c.in_err-value.ensures.follows

pub value-returns-in_err-end_object-clause-follows : goal.value-returns-in_err-end_object-clause-follows
value-returns-in_err-end_object-clause-follows t c =
    let ts = c.args.reader.now in
    let d = c.args.depth in
    let s = c.begin_object.new.reader in
    let u = c.next_key.new.self in
    let k = c.in-Some.key.now in
    let p = prefix_view c.in-Some-named.prefix in
    let named : read_key s ≡ Some (Some k, u) = grind arith in
    let failed = err_from_is_err_and c.from_residual-in_err-end_object.result c.from_residual-in_err-end_object.ensures.1 in
    stops c.from_residual-in_err-end_object.result c.in_err-end_object.field-0.0 (Inside (d - 1) k u) (ValueIsNext d ts) (failed.1 ∙ ap Err failed.2)
    (λ h. keyed (d - 1) s u k (begun d ts s h c.in_ok-begin_object.ensures.ok) named)
    (λ e h. not_closed (d - 1) k u c.content.new.reader p (view c.in_ok-value.value) h c.in_ok-value.ensures.value c.in_err-end_object.ensures.err)
