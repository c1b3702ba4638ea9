-- The steps by which a JSON value is read.
use Rattle.std.proofs.Common.{◌≡◌, ℕ, ◌≤◌, List, [], ◌∷◌, ◌++◌, Option, Some, None, Result, Ok, String, Vec, BTreeMap, Global, string_bytes, string_cmp, refl, ap, sym, subst, ◌∙◌, arith, Err}
use Rattle.std.specs.BTreeMap.{insert_entry}
use Rattle.serde_json.specs.Data as json
use Rattle.serde_json.specs.Data.{put}
use Rattle.serde_json.specs.View.{view, items_view, members_view}
use Rattle.serde_json.specs.declared.value.Value.{Value, Array, Object}
use Rattle.serde_json.proofs.Views.{view-Array, view-Object, members_view-insert_entry}
use Rattle.dynamo_value.specs.Fault.{Fault}
use Rattle.dynamo_de.specs.Answer as answer
use Rattle.dynamo_de.specs.Answer.{Answer, Gives}
use Rattle.dynamo_value.specs.Steps.{◌>>=◌}
use Rattle.dynamo_de.specs.Ignored.{source_height, sources_height, entries_height}
use Rattle.dynamo_de.specs.ReadJson.{read_value, read_json, read_entries, read_shown}
use Rattle.dynamo_de.specs.Reading.{read_string}
use Rattle.dynamo_de.specs.Shown.{shown}
use Rattle.dynamo_de.specs.Shows.{seen, TakesElement, TakesEntry}
use Rattle.dynamo_de.specs.Source.{Source, key_text, attribute, Entry}
use Rattle.dynamo_de.specs.declared.request.Request.TheVariants as request
use Rattle.dynamo_de.specs.declared.showing.Showing.{Showing as ShowingOf}
use Rattle.dynamo_de.proofs.Json.{json_as_shown, ItemsFrom, item_read, before_nothing}

-- what is answered with is the value
answered : {A V : Type 0} (seen : V → A) (x : Answer A) (v : V) → Gives seen x (Ok v) → x ≡ answer.value (seen v)
answered seen (Ok y) v is = ap answer.value (sym is)
answered seen (Err f) v is = absurd is

gives : {A V : Type 0} (seen : V → A) (x : Answer A) (v : V) → x ≡ answer.value (seen v) → Gives seen x (Ok v)
gives seen x v is = subst (λ y. Gives seen y (Ok v)) (sym is) refl

-- ---- a whole array, a whole object

pub array_given : (x : Answer json.Items) (items : Vec Value Global) → Gives (λ v. items_view v.items) x (Ok items) → Gives view (x >>= λ js. answer.value (json.array js)) (Ok (Array items))
array_given x items given = rw (answered (λ (v : Vec Value Global). items_view v.items) x items given) (view-Array items)

pub object_given : (x : Answer json.Members) (members : BTreeMap (String Global) Value) → Gives (λ m. members_view m.entries) x (Ok members)
    → Gives view (x >>= λ js. answer.value (json.object js)) (Ok (Object members))
object_given x members given = rw (answered (λ (m : BTreeMap (String Global) Value). members_view m.entries) x members given) (view-Object members)

module _ {D : Type 0} (source : D → Source) where
  -- ---- elements

  taken : (ss new : List Source) (d : D) → TakesElement source ss new (Some d) → ss ≡ source d ∷ new
  taken [] new d t = cc
  taken (s ∷ ss) new d t = λ i. sym t.1 i ∷ sym t.0 i

  pub items_step : (all : Answer json.Items) (vs ws : List Value) (v : Value) (ss new : List Source) (d : D) → TakesElement source ss new (Some d)
      → ws ≡ vs ++ v ∷ [] → ItemsFrom vs ss ≡ all → Gives view (read_json (source d)) (Ok v) → ItemsFrom ws new ≡ all
  items_step all vs ws v ss new d t pushed so_far given =
      ap (λ xs. ItemsFrom xs new) pushed ∙ sym (item_read vs v (source d) new (answered view (read_json (source d)) v given)) ∙ ap (ItemsFrom vs) (sym (taken ss new d t)) ∙ so_far

  pub items_lower : (ss new : List Source) (d : D) → TakesElement source ss new (Some d) → (source_height (source d) ≤ sources_height ss) × (sources_height new ≤ sources_height ss)
  items_lower ss new d t = rw (taken ss new d t) (omega arith, omega arith)

  pub items_end : (all : Answer json.Items) (items : Vec Value Global) (ss new : List Source) → TakesElement source ss new None
      → ItemsFrom items.items ss ≡ all → Gives (λ v. items_view v.items) all (Ok items)
  items_end all items [] new t so_far = gives (λ (v : Vec Value Global). items_view v.items) all items (sym so_far ∙ ap answer.value (before_nothing items.items))
  items_end all items (s ∷ ss) new t so_far = absurd t

  -- ---- entries

  pub members_step : (all : Answer json.Members) (old put_in : List (String Global × Value)) (name : String Global) (v : Value) (es new : List Entry) (d : D × D) → TakesEntry source es new (Some d)
      → put_in ≡ insert_entry string_cmp old name v → read_entries (members_view old) es ≡ all → Gives string_bytes (read_string (source d.0)) (Ok name) → Gives view (read_json (source d.1)) (Ok v)
      → read_entries (members_view put_in) new ≡ all
  members_step all old put_in name v [] new d t inserted is named given = cc
  members_step all old put_in name v (e ∷ es) new d t inserted is named given =
      let so_far = members_view old in
      let same_name : e.0 ≡ string_bytes name = value_same (answered string_bytes (read_string (key_text e.0)) name (subst (λ s. Gives string_bytes (read_string s) (Ok name)) t.1 named)) in
      let same_value : read_value e.1 ≡ answer.value (view v) = answered view (read_json (attribute e.1)) v (subst (λ s. Gives view (read_json s) (Ok v)) t.2 given) in
      ap (λ ms. read_entries (members_view ms) new) inserted ∙ ap (λ ms. read_entries ms new) (members_view-insert_entry old name v)
      ∙ (λ i. read_entries (put (sym same_name i) (view v) so_far) (t.0 i)) ∙ sym (ap (λ x. x >>= λ j. read_entries (put e.0 j so_far) es) same_value) ∙ is
    where
      value_same : {x y : List ℕ} → answer.value x ≡ answer.value y → x ≡ y
      value_same h = cc

  pub members_lower : (es new : List Entry) (d : D × D) → TakesEntry source es new (Some d) → (source_height (source d.1) ≤ entries_height es) × (entries_height new ≤ entries_height es)
  members_lower [] new d t = cc
  members_lower (e ∷ es) new d t = rw (t.0, t.2) (omega arith, omega arith)

-- ---- what a showing is read as

module _ {D L M C : Type 0} (source : D → Source) (elements : L → List Source) (entries : M → List Entry) (variants : C → Result (List ℕ × Option Source) Fault) (s : Source) (x : ShowingOf D L M C) where
  pub shown_given : (y : ShowingOf D L M C) (v : Value) → shown request.Any s ≡ Ok (seen source elements entries variants x) → x ≡ y
      → Gives view (read_shown (Ok (seen source elements entries variants y))) (Ok v) → Gives view (read_json s) (Ok v)
  shown_given y v shows is given = subst (λ a. Gives view a (Ok v)) (sym (json_as_shown s ∙ ap read_shown (shows ∙ ap (λ z. Ok (seen source elements entries variants z)) is))) given
