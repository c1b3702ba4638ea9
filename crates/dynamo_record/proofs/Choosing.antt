-- The content of the variant at a place: among the first list, or after it.
use Rattle.std.proofs.Common.{◌≡◌, ◌+◌, ℕ, Option, Result, Ok, Err, sym, ap, subst, ◌∙◌, inl, inr}
use Rattle.dynamo_record.proofs.Common.{Fault, Meets, Source, Text, Permits, Same, Names}
use Rattle.dynamo_record.proofs.Common.{AboutVariants, Contents, ReadsAt, choice_contents}
use Rattle.dynamo_record.proofs.Common.{choice_told, right_conforms}
use Rattle.dynamo_record.specs.Variants.{read_at}
use Rattle.dynamo_record.specs.declared.variant_list.Choice.{Choice}
use Rattle.dynamo_record.specs.declared.variant_list.Choice.TheVariants.{Left, Right}

module _ {L R E : Type 0} (fault : E → Fault) (l : AboutVariants L) (r : AboutVariants R) (name : Text) (ns : Names) (i : ℕ) (cs : Contents) (place : ℕ) (s : Option Source) where
  abbrev Reads : Result (Choice L R) E → Type 0
  Reads = Meets fault (ReadsAt (choice_contents l r) (choice_told l r) name ns i cs place s)

  pub left_read : (v : L) → Meets fault (ReadsAt l.contents l.told name ns i (r.contents cs) place s) (Ok v) → Reads (Ok (Left v))
  left_read v h = h

  module _ (j : ℕ) (at : l.count + j ≡ place) where
    same_place : read_at name ns i (choice_contents l r cs) place s ≡ read_at name ns (i + l.count) (r.contents cs) j s
    same_place = ap (λ n. read_at name ns i (choice_contents l r cs) n s) (sym at) ∙ l.read_behind name ns i (r.contents cs) j s

    pub right_read : (w : R) → Meets fault (ReadsAt r.contents r.told name ns (i + l.count) cs j s) (Ok w) → Reads (Ok (Right w))
    right_read w h = (h.0, same_place ∙ h.1, λ c. h.2 (right_conforms l r name ns i cs w c))

    pub right_fails : (e : E) → Meets {V = R} fault (ReadsAt r.contents r.told name ns (i + l.count) cs j s) (Err e) → Reads (Err e)
    right_fails e h = elim h [ inl lacks ↦ inl lacks | inr failed ↦ inr (subst (λ a. Permits Same a (Err (fault e))) (sym same_place) failed) ]
