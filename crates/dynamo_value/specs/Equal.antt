-- Tests of whether two attribute values are the same, as contracts see them, and so two items and two lists of items.
use Rattle.std.proofs.Common.{◌≡◌, List, refl, ap, Bool, true, false, ◌&&◌}
use Rattle.std.proofs.Math.Bool.{beq}
use Rattle.std.proofs.lemmas.Bool.Decides.{Decides-and, Decides-like}
use Rattle.std.specs.Bool.{Decides}
use Rattle.std.specs.Cmp.{IsEquivalence, decided, booleans_Decides}
use Rattle.std.specs.Cmp.Lexicographic.{pointwise, pointwise_decides, bytes_decides}
use Rattle.std.specs.Str.{bytes_eq}
use Rattle.dynamo_value.specs.Av.{Av, N, S, Boolean, B, Null, M, L, Ss, Ns, Bs, Members, no_members, member, Elements, no_elements, element}

mutual
  pub av_eq : Av → Av → Bool
  av_eq (N t) (N u) = bytes_eq t u
  av_eq (S t) (S u) = bytes_eq t u
  av_eq (Boolean b) (Boolean c) = beq b c
  av_eq (B t) (B u) = bytes_eq t u
  av_eq (Null b) (Null c) = beq b c
  av_eq (M ms) (M ns) = members_eq ms ns
  av_eq (L es) (L fs) = elements_eq es fs
  av_eq (Ss ts) (Ss us) = pointwise bytes_eq ts us
  av_eq (Ns ts) (Ns us) = pointwise bytes_eq ts us
  av_eq (Bs ts) (Bs us) = pointwise bytes_eq ts us
  av_eq _ _ = false

  pub members_eq : Members → Members → Bool
  members_eq no_members no_members = true
  members_eq (member k a ms) (member j b ns) = bytes_eq k j && (av_eq a b && members_eq ms ns)
  members_eq _ _ = false

  pub elements_eq : Elements → Elements → Bool
  elements_eq no_elements no_elements = true
  elements_eq (element a es) (element b fs) = av_eq a b && elements_eq es fs
  elements_eq _ _ = false

-- two lists of items, each by its members
abbrev pub items_eq : List Members → List Members → Bool
items_eq = pointwise members_eq

-- ---- each test decides whether the two are equal

mutual
  unfolding av_eq members_eq elements_eq

  pub av_eq_decides : (a b : Av) → Decides (av_eq a b) (a ≡ b)
  av_eq_decides (N t) (N u) = Decides-like (bytes_eq t u) (ap N) (λ e. cc) (bytes_decides t u)
  av_eq_decides (S t) (S u) = Decides-like (bytes_eq t u) (ap S) (λ e. cc) (bytes_decides t u)
  av_eq_decides (Boolean b) (Boolean c) = Decides-like (beq b c) (ap Boolean) (λ e. cc) (booleans_Decides b c)
  av_eq_decides (B t) (B u) = Decides-like (bytes_eq t u) (ap B) (λ e. cc) (bytes_decides t u)
  av_eq_decides (Null b) (Null c) = Decides-like (beq b c) (ap Null) (λ e. cc) (booleans_Decides b c)
  av_eq_decides (M ms) (M ns) = Decides-like (members_eq ms ns) (ap M) (λ e. cc) (members_eq_decides ms ns)
  av_eq_decides (L es) (L fs) = Decides-like (elements_eq es fs) (ap L) (λ e. cc) (elements_eq_decides es fs)
  av_eq_decides (Ss ts) (Ss us) = Decides-like (pointwise bytes_eq ts us) (ap Ss) (λ e. cc) (pointwise_decides bytes_decides ts us)
  av_eq_decides (Ns ts) (Ns us) = Decides-like (pointwise bytes_eq ts us) (ap Ns) (λ e. cc) (pointwise_decides bytes_decides ts us)
  av_eq_decides (Bs ts) (Bs us) = Decides-like (pointwise bytes_eq ts us) (ap Bs) (λ e. cc) (pointwise_decides bytes_decides ts us)
  av_eq_decides _ _ = (λ e. cc, λ e. cc)

  pub members_eq_decides : (ms ns : Members) → Decides (members_eq ms ns) (ms ≡ ns)
  members_eq_decides no_members no_members = (λ e. refl, λ e. refl)
  members_eq_decides (member k a ms) (member j b ns) =
      let rest = Decides-and (av_eq a b) (members_eq ms ns) (av_eq_decides a b) (members_eq_decides ms ns) in
      Decides-like (bytes_eq k j && (av_eq a b && members_eq ms ns)) (λ p i. member (p.0 i) (p.1.0 i) (p.1.1 i)) (λ e. (cc, (cc, cc)))
      (Decides-and (bytes_eq k j) (av_eq a b && members_eq ms ns) (bytes_decides k j) rest)
  members_eq_decides _ _ = (λ e. cc, λ e. cc)

  pub elements_eq_decides : (es fs : Elements) → Decides (elements_eq es fs) (es ≡ fs)
  elements_eq_decides no_elements no_elements = (λ e. refl, λ e. refl)
  elements_eq_decides (element a es) (element b fs) =
      Decides-like (av_eq a b && elements_eq es fs) (λ p i. element (p.0 i) (p.1 i)) (λ e. (cc, cc))
      (Decides-and (av_eq a b) (elements_eq es fs) (av_eq_decides a b) (elements_eq_decides es fs))
  elements_eq_decides _ _ = (λ e. cc, λ e. cc)

pub items_eq_decides : (xs ys : List Members) → Decides (items_eq xs ys) (xs ≡ ys)
items_eq_decides = pointwise_decides members_eq_decides

-- ---- so it is an equivalence

pub av_eq_equiv : IsEquivalence av_eq
av_eq_equiv = decided av_eq av_eq_decides

pub members_eq_equiv : IsEquivalence members_eq
members_eq_equiv = decided members_eq members_eq_decides

pub items_eq_equiv : IsEquivalence items_eq
items_eq_equiv = decided items_eq items_eq_decides
