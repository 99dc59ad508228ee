-- Label texts, computed.
use Rattle.std.proofs.Common.{◌≡◌, refl, pos, [], ◌∷◌}
use Rattle.std.specs.Prelude.{codes, Some, true, false, negsuc}
use Rattle.std.specs.Fmt.{digits}
use Rattle.pg_list.specs.Places.{place}
use Rattle.pg_plan.specs.declared.states.Side.TheVariants.{R}
use Rattle.pg_scaled.specs.Scaled.{fraction_digits}
use Rattle.pg_labels.specs.LabelText.{label_text, label_front, label_rest, label_place, label_page, label_room, label_floats, label_line, labels_line}
use Rattle.pg_labels.proofs.WorkedTexts.{fit_labels, fit_labels_text, three_labels, three_labels_text}

three : label_text false three_labels ≡ three_labels_text
unfolding label_front label_rest label_place label_page label_room label_floats label_line labels_line digits
    fraction_digits
three = refl

with_fitness : label_text true fit_labels ≡ fit_labels_text
unfolding label_front label_rest label_place label_page label_room label_floats label_line labels_line digits
    fraction_digits
with_fitness = refl

-- a label with every field
every_field : label_text true (record {
  state = record {
    place = place 7 1 6;
    column = 2;
    side = R;
    run = Some 4;
    wide = Some (pos 98304);
    fitness = Some 3;
    placed = 1 ∷ 0 ∷ [];
    ages = 2 ∷ 0 ∷ [];
  };
  cost = negsuc 11;
} ∷ []) ≡ codes "labels 1 fitness\nlabel 1 7 1 6 2 R 4 1.5 3 1,0 2,0 -12\n"
unfolding label_front label_rest label_place label_page label_room label_floats label_line labels_line digits
    fraction_digits
every_field = refl

-- no labels
none : label_text false [] ≡ codes "labels 0\n"
unfolding label_front label_rest label_place label_page label_room label_floats label_line labels_line digits
    fraction_digits
none = refl
