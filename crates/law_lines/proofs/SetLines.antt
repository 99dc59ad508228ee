-- The box of a line shows itself.
use Rattle.std.proofs.Common.{◌≡◌, refl, sym, ap, subst, ◌∙◌, ◌<◌, ◌≤◌, ℕ, true, List, [], ◌∷◌, ◌++◌, length, map, take, drop, take_at, drop_at, append_assoc, append-nil, arith}
use Rattle.std.specs.Prelude.{codes, decimal, Ok, ℤ, pos, negsuc, int_le}
use Rattle.std.specs.List.{AllByRecursion, prefix_len}
use Rattle.std.proofs.lemmas.Int.{ints}
use Rattle.std.proofs.lemmas.Bool.Decides.{nat_tests}
use Rattle.pg_lemmas.proofs.Lists.{all_append}
use Rattle.pg_scaled.specs.Digits.{digit_count}
use Rattle.pg_scaled.specs.Ranges.{IsScaled}
use Rattle.pg_scaled.specs.Scaled.{scaled_text}
use Rattle.pg_scaled.proofs.ReadsBack.{text_reads}
use Rattle.pg_list.specs.declared.item.Item.TheVariants as item
use Rattle.pg_scan.specs.Lines.{IsClean, dotted, is_no_feed}
use Rattle.pg_scan.specs.Parts.{after, named}
use Rattle.pg_scan.proofs.CleanLines.{NoFeed}
use Rattle.law_words.proofs.Blanks.{any_decimal_lacks, any_scaled_lacks}
use Rattle.law_words.proofs.Cut.{lacks, lacks_append}
use Rattle.pg_showbox.specs.declared.node.Node.TheVariants as node
use Rattle.pg_showbox.specs.declared.parsed.ParsedLine.TheVariants as said
use Rattle.pg_showbox.specs.Nodes.{box_at, later_node_at, node_at, penalty_at}
use Rattle.pg_showbox.specs.ParsedLine.{pointed_at}
use Rattle.pg_showbox.specs.Parts.{due, size_at, whole_at}
use Rattle.pg_showbox.specs.Shown.{IsDeeper, IsShown, deeper_text}
use Rattle.pg_showbox.proofs.ReadBack.{no_feed_is}
use Rattle.pg_showbox.proofs.WholeReads.{whole_reads}
use Rattle.pg_list.specs.Bodies.{body_of}
use Rattle.pg_hlist.specs.declared.item.HItem.{HItem}
use Rattle.pg_hlist.specs.declared.item.HItem.TheVariants.{BoxItem, Glue, Kern, Penalty}
use Rattle.pg_hlist.specs.Items.{IsInRange, as_item}
use Rattle.law_lines.specs.declared.rule.LineRule.{LineRule}
use Rattle.law_lines.specs.Boxes.{box_front, deeper, depth_of, first_line, glue_widths, height_of, items_text, later_lines, line_box, set_deeper}
use Rattle.law_lines.specs.Variants.{between_item}
use Rattle.law_lines.proofs.Shapes.{depth_scaled, height_scaled}
use Rattle.law_lines.specs.Clean.{HasCleanLines}
use Rattle.law_lines.proofs.CleanEnds.{deeper_append, ends_clean, plain_clean, with_point}

-- ---- deeper lines

-- the text of some deeper lines
abbrev AreDeeper : List ℕ → Type 0
AreDeeper text = (lines : List (List ℕ)) × AllByRecursion IsDeeper lines × (text ≡ deeper_text lines)

both_deeper : (a b : List ℕ) → AreDeeper a → AreDeeper b → AreDeeper (a ++ b)
both_deeper a b h k = (
  h.0 ++ k.0,
  all_append IsDeeper h.0 k.0 h.1 k.1,
  ap (λ (t : List ℕ). t ++ b) h.2 ∙ ap (λ (t : List ℕ). deeper_text h.0 ++ t) k.2 ∙ sym (deeper_append h.0 k.0),
)

line_deeper : (line : List ℕ) → IsClean line → IsDeeper (46 ∷ line)
unfolding pointed_at after
line_deeper line h = record { clean = with_point (46 ∷ line) (with_point line h); says = refl }

-- each line with a point more
abbrev pointed : List (List ℕ) → List (List ℕ)
pointed lines = map (λ (line : List ℕ). 46 ∷ line) lines

all_deeper : (lines : List (List ℕ)) → AllByRecursion IsClean lines → AllByRecursion IsDeeper (pointed lines)
all_deeper [] h = tt
all_deeper (line ∷ lines) h = (line_deeper line h.0, all_deeper lines h.1)

dotted_line : (line more : List ℕ) → NoFeed line → dotted (line ++ more) ≡ line ++ dotted more
dotted_line [] more h = refl
dotted_line (c ∷ cs) more h = rw (no_feed_is c h.0, dotted_line cs more h.1) refl

dotted_first : (line : List ℕ) → NoFeed line → dotted line ≡ line
dotted_first line h = ap dotted (sym (append-nil line)) ∙ dotted_line line [] h ∙ append-nil line

dotted_more : (lines : List (List ℕ)) → AllByRecursion IsClean lines →
    dotted (deeper_text lines) ≡ deeper_text (pointed lines)
dotted_more [] h = refl
dotted_more (line ∷ lines) h = ap (λ (t : List ℕ). 10 ∷ 46 ∷ t)
    (dotted_line line (deeper_text lines) h.0.no_feed ∙ ap (λ (t : List ℕ). line ++ t) (dotted_more lines h.1))

body_deeper : (first : List ℕ) (more : List (List ℕ)) → IsClean first → AllByRecursion IsClean more →
    AreDeeper (deeper (first ++ deeper_text more))
body_deeper first more clean each = (
  pointed (first ∷ more),
  all_deeper (first ∷ more) (clean, each),
  ap (λ (t : List ℕ). 10 ∷ 46 ∷ t)
      (dotted_line first (deeper_text more) clean.no_feed ∙ ap (λ (t : List ℕ). first ++ t) (dotted_more more each)),
)

-- ---- the first line of a body, and the others

feed_at : (first : List ℕ) (more : List (List ℕ)) → NoFeed first →
    prefix_len is_no_feed (first ++ deeper_text more) ≡ length first
feed_at [] [] h = refl
feed_at [] (line ∷ lines) h = refl
feed_at (c ∷ cs) more h = let rest = feed_at cs more h.1 in let test = no_feed_is c h.0 in rw test (omega arith)

first_is : (first : List ℕ) (more : List (List ℕ)) → NoFeed first → first_line (first ++ deeper_text more) ≡ first
first_is first more h = ap (λ (n : ℕ). take n (first ++ deeper_text more)) (feed_at first more h)
    ∙ take_at first (deeper_text more) (length first) refl

later_are : (first : List ℕ) (more : List (List ℕ)) → NoFeed first →
    later_lines (first ++ deeper_text more) ≡ deeper_text more
later_are first more h = ap (λ (n : ℕ). drop n (first ++ deeper_text more)) (feed_at first more h)
    ∙ drop_at first (deeper_text more) (length first) refl

-- ---- glue with its set width

set_lacks : (s : ℕ) (width : ℤ) → s < 44 → lacks s (codes ", set ") ≡ true →
    lacks s (codes ", set " ++ scaled_text width) ≡ true
set_lacks s width low h = lacks_append s (codes ", set ") (scaled_text width) h (any_scaled_lacks s width low)

set_line : (first : List ℕ) (width : ℤ) → NoFeed first → IsClean (first ++ (codes ", set " ++ scaled_text width))
set_line first width h = ends_clean first 44 (codes " set " ++ scaled_text width) h
    (set_lacks 10 width (omega arith) refl) (set_lacks 13 width (omega arith) refl)

three_parts : (a b c d : List ℕ) → a ++ (b ++ (c ++ d)) ≡ (a ++ (b ++ c)) ++ d
three_parts a b c d = sym (append_assoc a (b ++ c) d ∙ ap (λ (t : List ℕ). a ++ t) (append_assoc b c d))

-- what stands behind the first line of a glue
abbrev set_behind : ℤ → List ℕ → List ℕ
set_behind width rest = codes ", set " ++ (scaled_text width ++ rest)

set_deeper_lines : (first : List ℕ) (more : List (List ℕ)) (width : ℤ) → IsClean first → AllByRecursion IsClean more →
    AreDeeper (set_deeper (first ++ deeper_text more) width)
set_deeper_lines first more width clean each = (
  pointed ((first ++ (codes ", set " ++ scaled_text width)) ∷ more),
  all_deeper ((first ++ (codes ", set " ++ scaled_text width)) ∷ more) (set_line first width clean.no_feed, each),
  ap (λ (t : List ℕ). deeper t ++ set_behind width (dotted (later_lines (first ++ deeper_text more))))
      (first_is first more clean.no_feed)
      ∙ ap (λ (t : List ℕ). deeper first ++ set_behind width (dotted t)) (later_are first more clean.no_feed)
      ∙ ap (λ (t : List ℕ). (10 ∷ 46 ∷ t) ++ set_behind width (dotted (deeper_text more)))
      (dotted_first first clean.no_feed)
      ∙ ap (λ (t : List ℕ). (10 ∷ 46 ∷ first) ++ set_behind width t) (dotted_more more each)
      ∙ ap (λ (t : List ℕ). 10 ∷ 46 ∷ t)
      (three_parts first (codes ", set ") (scaled_text width) (deeper_text (pointed more))),
)

-- ---- the items of a line

item_deeper : (it : HItem) → HasCleanLines it → AreDeeper (deeper (body_of (as_item it)))
item_deeper it h = subst (λ (body : List ℕ). AreDeeper (deeper body)) (sym h.is)
    (body_deeper h.first h.more h.clean h.each)

glue_deeper : (it : HItem) (width : ℤ) → HasCleanLines it → AreDeeper (set_deeper (body_of (as_item it)) width)
glue_deeper it width h = subst (λ (body : List ℕ). AreDeeper (set_deeper body width)) (sym h.is)
    (set_deeper_lines h.first h.more width h.clean h.each)

items_deeper : (items : List HItem) (widths : List ℤ) → AllByRecursion HasCleanLines items →
    AreDeeper (items_text items widths)
items_deeper [] widths h = ([], tt, refl)
items_deeper (BoxItem width height depth body ∷ items) widths h =
    both_deeper (deeper body) (items_text items widths) (item_deeper (BoxItem width height depth body) h.0)
    (items_deeper items widths h.1)
items_deeper (Glue width stretch order shrink body ∷ items) [] h =
    both_deeper (deeper body) (items_text items []) (item_deeper (Glue width stretch order shrink body) h.0)
    (items_deeper items [] h.1)
items_deeper (Glue width stretch order shrink body ∷ items) (set ∷ widths) h =
    both_deeper (set_deeper body set) (items_text items widths)
    (glue_deeper (Glue width stretch order shrink body) set h.0) (items_deeper items widths h.1)
items_deeper (Kern width body ∷ items) widths h =
    both_deeper (deeper body) (items_text items widths) (item_deeper (Kern width body) h.0)
    (items_deeper items widths h.1)
items_deeper (Penalty value body ∷ items) widths h =
    both_deeper (deeper body) (items_text items widths) (item_deeper (Penalty value body) h.0)
    (items_deeper items widths h.1)

-- ---- the box's own line

front_lacks : (s : ℕ) (height depth width : ℤ) → s < 44 → lacks s (codes ".\\hbox(") ≡ true →
    lacks s (codes "+") ≡ true → lacks s (codes ")x") ≡ true → lacks s (46 ∷ box_front height depth width) ≡ true
front_lacks s height depth width low front plus close =
    let last = lacks_append s (codes ")x") (scaled_text width) close (any_scaled_lacks s width low) in
    let behind = lacks_append s (scaled_text depth) (codes ")x" ++ scaled_text width)
    (any_scaled_lacks s depth low) last in
    let sum = lacks_append s (codes "+") (scaled_text depth ++ (codes ")x" ++ scaled_text width)) plus behind in
    lacks_append s (codes ".\\hbox(") _ front
    (lacks_append s (scaled_text height) _ (any_scaled_lacks s height low) sum)

front_clean : (height depth width : ℤ) → IsClean (46 ∷ box_front height depth width)
front_clean height depth width = plain_clean (46 ∷ box_front height depth width)
    (front_lacks 10 height depth width (omega arith) refl refl refl)
    (front_lacks 13 height depth width (omega arith) refl refl refl)

size_here : (v : ℤ) (rest : List ℕ) → IsScaled v → digit_count rest ≡ 0 → size_at (scaled_text v ++ rest) ≡ Ok (v, rest)
unfolding size_at
size_here v rest small none = rw (text_reads v rest small none)
    (ap (λ (left : List ℕ). Ok (v, left)) (drop_at (scaled_text v) rest (length (scaled_text v)) refl))

size_last : (v : ℤ) → IsScaled v → size_at (scaled_text v) ≡ Ok (v, [])
size_last v small = ap size_at (sym (append-nil (scaled_text v))) ∙ size_here v [] small refl

front_says : (height depth width : ℤ) → IsScaled height → IsScaled depth → IsScaled width →
    pointed_at (box_front height depth width) ≡ Ok (said.Item (node.Box height depth))
unfolding pointed_at node_at named after box_at due
front_says height depth width h d w =
    rw (
      size_here height (codes "+" ++ (scaled_text depth ++ (codes ")x" ++ scaled_text width))) h refl,
      size_here depth (codes ")x" ++ scaled_text width) d refl,
      size_last width w,
    ) refl

-- the box of a line whose items have clean lines
pub line_shown : (rule : LineRule) (line : List HItem) → IsScaled rule.width → AllByRecursion IsInRange line →
    AllByRecursion HasCleanLines line → IsShown (line_box rule line)
line_shown rule line small range clean =
    let lines = items_deeper line (glue_widths rule line) clean in
    record {
      node = node.Box (height_of line) (depth_of line);
      first = box_front (height_of line) (depth_of line) rule.width;
      deeper = lines.0;
      clean = front_clean (height_of line) (depth_of line) rule.width;
      says = front_says (height_of line) (depth_of line) rule.width (height_scaled line range) (depth_scaled line range)
          small;
      each = lines.1;
      is = ap (λ (t : List ℕ). item.BoxItem (height_of line) (depth_of line)
          (box_front (height_of line) (depth_of line) rule.width ++ t)) lines.2;
    }

-- ---- penalties between lines

penalty_lacks : (s n : ℕ) → s < 44 → lacks s (codes ".\\penalty ") ≡ true →
    lacks s (codes ".\\penalty " ++ decimal n) ≡ true
penalty_lacks s n low front = lacks_append s (codes ".\\penalty ") (decimal n) front (any_decimal_lacks s n low)

high_enough : (n : ℕ) → n ≤ 300 → int_le (negsuc 2147483647) (pos n) ≡ true
high_enough n few = grind (arith, nat_tests, ints)

low_enough : (n : ℕ) → n ≤ 300 → int_le (pos n) (pos 2147483647) ≡ true
low_enough n few = grind (arith, nat_tests, ints)

whole_last : (n : ℕ) → n ≤ 300 → whole_at (negsuc 2147483647) (pos 2147483647) (decimal n) ≡ Ok (pos n, [])
whole_last n few = ap (whole_at (negsuc 2147483647) (pos 2147483647)) (sym (append-nil (decimal n)))
    ∙ whole_reads (negsuc 2147483647) (pos 2147483647) (pos n) [] (omega arith) (high_enough n few)
    (low_enough n few) refl

penalty_says : (n : ℕ) → n ≤ 300 → pointed_at (codes "\\penalty " ++ decimal n) ≡ Ok (said.Item (node.Penalty (pos n)))
unfolding pointed_at node_at later_node_at named after penalty_at due
penalty_says n few = rw (whole_last n few) refl

pub penalty_shown : (n : ℕ) → n ≤ 300 → IsShown (between_item n)
penalty_shown n few = record {
  node = node.Penalty (pos n);
  first = codes "\\penalty " ++ decimal n;
  deeper = [];
  clean = plain_clean (46 ∷ (codes "\\penalty " ++ decimal n)) (penalty_lacks 10 n (omega arith) refl)
      (penalty_lacks 13 n (omega arith) refl);
  says = penalty_says n few;
  each = tt;
  is = ap (item.Penalty (pos n)) (sym (append-nil (codes "\\penalty " ++ decimal n)));
}
