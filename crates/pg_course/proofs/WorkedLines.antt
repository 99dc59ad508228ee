-- The lines of galleys that are made, computed.
use Rattle.std.proofs.Common.{◌≡◌, refl, pos}
use Rattle.std.specs.Prelude.{codes, negsuc}
use Rattle.std.specs.Fmt.{digits}
use Rattle.pg_course.specs.Made.{made_front, made_labels, made_none, made_pages, none_line, pages_line}

one_paragraph : pages_line 1 30 1 (pos 100) 38 ≡ codes "make 1 items 30 pages 1 cost 100 labels 38\n"
unfolding made_front made_pages made_labels digits
one_paragraph = refl

a_cost_below_zero : pages_line 0 0 2 (negsuc 16) 1 ≡ codes "make 0 items 0 pages 2 cost -17 labels 1\n"
unfolding made_front made_pages made_labels digits
a_cost_below_zero = refl

no_pages : none_line 7 400 5 ≡ codes "make 7 items 400 no legal pagination labels 5\n"
unfolding made_front made_none made_labels digits
no_pages = refl
