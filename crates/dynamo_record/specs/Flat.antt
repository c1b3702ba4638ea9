-- Lists of several lists, known as the pairs of their halves.
use Rattle.dynamo_record.specs.Listed.{AboutList, about_both}

-- a list that is another one, put otherwise
abbrev pub about_as : {W L : Type 0} → (W → L) → AboutList L → AboutList W
about_as as' l = record {
  count = l.count;
  shapes = l.shapes;
  defaults = l.defaults;
  told = λ w. l.told (as' w);
  same = λ v w. l.same (as' v) (as' w);
  told_by_value = λ v w. l.told_by_value (as' v) (as' w);
  told_alike = λ v w. l.told_alike (as' v) (as' w);
  many = λ w. l.many (as' w);
}

abbrev pub about_four : {A B C D : Type 0} → AboutList A → AboutList B → AboutList C → AboutList D
    → AboutList (A × B × C × D)
about_four a b c d = about_as (λ w. ((w.0, w.1), (w.2, w.3)))
    (about_both (about_both a b) (about_both c d))

abbrev pub about_eight : {A B C D E F G H : Type 0} → AboutList A → AboutList B → AboutList C
    → AboutList D → AboutList E → AboutList F → AboutList G → AboutList H
    → AboutList (A × B × C × D × E × F × G × H)
about_eight a b c d e f g h = about_as (λ w. ((w.0, w.1, w.2, w.3), (w.4, w.5, w.6, w.7)))
    (about_both (about_four a b c d) (about_four e f g h))
