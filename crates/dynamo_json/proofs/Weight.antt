-- How much there is to write of an attribute value: what is inside weighs less.
use Rattle.std.proofs.Common.{ℕ, zero, suc, ◌+◌, ◌<◌, List, [], ◌∷◌, length, get_or, arith}
use Rattle.dynamo_json.proofs.Common.{Av, view, elements_view, AttributeValue, Lent, lent_view}
use Rattle.dynamo_value.specs.Av as av

abbrev mutual
  pub weight : Av → ℕ
  weight (av.M members) = suc (members_weight members)
  weight (av.L elements) = suc (elements_weight elements)
  weight _ = 0

  pub elements_weight : av.Elements → ℕ
  elements_weight av.no_elements = 0
  elements_weight (av.element a as') = suc (weight a + elements_weight as')

  pub members_weight : av.Members → ℕ
  members_weight av.no_members = 0
  members_weight (av.member name a ms) = suc (weight a + members_weight ms)

pub member_weighs_less : (ps : List Lent) (i : ℕ) (d : Lent) → i < length ps → weight (view (get_or ps i d).1.now) < members_weight (lent_view ps)
member_weighs_less [] i d h = absurd (omega arith)
member_weighs_less (p ∷ ps) zero d h = omega arith
member_weighs_less (p ∷ ps) (suc i) d h = omega (arith, member_weighs_less ps i d (omega arith))

pub element_weighs_less : (vs : List AttributeValue) (i : ℕ) (d : AttributeValue) → i < length vs → weight (view (get_or vs i d)) < elements_weight (elements_view vs)
element_weighs_less [] i d h = absurd (omega arith)
element_weighs_less (v ∷ vs) zero d h = omega arith
element_weighs_less (v ∷ vs) (suc i) d h = omega (arith, element_weighs_less vs i d (omega arith))
