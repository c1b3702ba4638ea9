use Rattle.std.proofs.Common.{◌≡◌, ◌∙◌, List, [], ◌∷◌, ◌++◌, Ok, ap, sym, rules, string_bytes}
use Rattle.dynamo_json.proofs.Common.{key, stored}
use Rattle.serde_json.specs.View.{view, members_view}
use Rattle.serde_json.proofs.Views.{Entry}
use Rattle.dynamo_json.proofs.Stored.{stored_pairs, member_stored, in_order}
use Rattle.dynamo_json.proofs.WithoutFloats.{names_in_order}
use Rattle.dynamo_json.proofs.json_text.Printer.+stored.Goals as goal

pub stored_members-loop-key-preserved : goal.stored_members-loop-key-preserved
stored_members-loop-key-preserved t c =
    let now = c.loop-key.self.out.tokens in
    let new = c.stored.new.self.out.tokens in
    let name = string_bytes c.in-Some.key.now in
    let j = view c.in-Some.json.now in
    let left = c.next.new.self in
    let keyed = c.in_ok-key.ensures.ok ∙ ap (λ t. now ++ key t ∷ []) c.as_str.ensures.value in
    let wrote : stored (now ++ key name ∷ []) j ≡ Ok new = ap (λ ts. stored ts j) (sym keyed) ∙ c.in_ok-stored.ensures.tokens in
    record {
      tokens = sym (ap (λ (es : List Entry). stored_pairs now (members_view es)) c.in-Some.ensures.steps
          ∙ member_stored now new name j (members_view left) wrote) ∙ c.loop-key.invariant.tokens;
      before = search rules;
    }

pub stored_members-returns-clause-tokens : goal.stored_members-returns-clause-tokens
stored_members-returns-clause-tokens t c =
    let now = c.loop-key.self.out.tokens in
    let es = c.args.members.now.entries in
    in_order c.args.self.now.out.tokens (members_view es) (names_in_order es c.iter-key-items.ensures.ordered)
    ∙ sym c.loop-key.invariant.tokens
    ∙ ap (λ (es : List Entry). stored_pairs now (members_view es)) c.in-None.ensures.steps.0
    ∙ ap Ok (sym c.in_ok-end_object.ensures.ok)
