-- What is read as paragraphs is within its ranges, on clean lines.
use Rattle.std.proofs.Common.{◌≡◌, refl, sym, ap, subst, ◌∙◌, ◌≤◌, ℕ, suc, Bool, true, false, List, [], ◌∷◌, ◌++◌, length, append_assoc, append-nil, arith}
use Rattle.std.specs.Prelude.{codes, if◌then◌else◌, is_some, nat_lt, IfOk, IfSome, Option, Some, None, Result, Ok, Err}
use Rattle.std.specs.List.{AllByRecursion}
use Rattle.pg_lemmas.proofs.Lists.{all_append}
use Rattle.pg_lemmas.proofs.Numbers.{less_true}
use Rattle.pg_list.specs.Bodies.{body_of, longer}
use Rattle.pg_scan.specs.Lines.{IsClean, Line, joined, raw_lines}
use Rattle.pg_scan.specs.Parts.{past}
use Rattle.pg_scan.proofs.CleanLines.{IsCleanLine, joined_clean}
use Rattle.pg_showbox.specs.declared.kinds.ListFault.{ListFault}
use Rattle.pg_showbox.specs.declared.kinds.ListKind.{ListKind}
use Rattle.pg_showbox.specs.declared.kinds.ListKind.TheVariants.{Limit}
use Rattle.pg_showbox.specs.Reading.{at_line, then_ok}
use Rattle.pg_showbox.specs.Shown.{deeper_text}
use Rattle.pg_showbox.proofs.ReadBack.{past_point}
use Rattle.pg_hlist.specs.declared.draft.Draft.{Draft}
use Rattle.pg_hlist.specs.declared.item.HItem.{HItem}
use Rattle.pg_hlist.specs.declared.item.HItem.TheVariants as item
use Rattle.pg_hlist.specs.declared.item.HNode.{HNode}
use Rattle.pg_hlist.specs.declared.item.HNode.TheVariants as node
use Rattle.pg_hlist.specs.declared.item.ParaLine.{ParaLine}
use Rattle.pg_hlist.specs.declared.item.ParaLine.TheVariants.{Nothing, Blank, Root, Item, Deeper}
use Rattle.pg_hlist.specs.Items.{IsInRange, IsNodeInRange, as_item, extended, node_item, para_limit, with_line}
use Rattle.pg_hlist.specs.ParsedLine.{line_parsed}
use Rattle.pg_hlist.specs.Reading.{closed, empty, ended, line_read, longer_last, opened, paras_of, placed, run, some_paras, step}
use Rattle.pg_hlist.proofs.Growing.{grown, longer_in_range}
use Rattle.law_lines.specs.Clean.{HasCleanLines, IsCleanPara}
use Rattle.law_lines.proofs.CleanEnds.{behind_point, deeper_append}
use Rattle.law_lines.proofs.ReadRanges.{IsPointed, IsSaid, bind_keeps, line_said}

-- ---- an item

body_of_node : (n : HNode) (body : List ℕ) → body_of (as_item (node_item n body)) ≡ body
body_of_node (node.Box width height depth) body = refl
body_of_node (node.Glue width stretch order shrink) body = refl
body_of_node (node.Kern width) body = refl
body_of_node (node.Penalty value) body = refl

node_in_range : (n : HNode) (body : List ℕ) → IsNodeInRange n → IsInRange (node_item n body)
node_in_range (node.Box width height depth) body h = h
node_in_range (node.Glue width stretch order shrink) body h = h
node_in_range (node.Kern width) body h = h
node_in_range (node.Penalty value) body h = h

-- the line behind its point
rest_of : (line bytes : List ℕ) → line ≡ 46 ∷ bytes → past (codes ".") line ≡ bytes
rest_of line bytes e = ap (past (codes ".")) e ∙ past_point bytes

rest_clean : (line : List ℕ) → IsClean line → IsPointed line → IsClean (past (codes ".") line)
rest_clean line clean p =
    subst IsClean (sym (rest_of line p.0 p.1)) (behind_point p.0 (subst IsClean p.1 clean))

node_clean : (n : HNode) (body : List ℕ) → IsClean body → HasCleanLines (node_item n body)
node_clean n body clean = record {
  first = body;
  more = [];
  clean = clean;
  each = tt;
  is = body_of_node n body ∙ sym (append-nil body);
}

-- ---- one line more

longer_body : (line : List ℕ) (it : HItem) → body_of (as_item (with_line line it)) ≡ longer (body_of (as_item it)) line
longer_body line (item.BoxItem width height depth body) = refl
longer_body line (item.Glue width stretch order shrink body) = refl
longer_body line (item.Kern width body) = refl
longer_body line (item.Penalty value body) = refl

longer_clean : (line : List ℕ) → IsClean line → (it : HItem) → HasCleanLines it → HasCleanLines (with_line line it)
longer_clean line clean it h = record {
  first = h.first;
  more = h.more ++ line ∷ [];
  clean = h.clean;
  each = all_append IsClean h.more (line ∷ []) h.each (clean, tt);
  is = longer_body line it ∙ ap (λ (body : List ℕ). longer body line) h.is
      ∙ append_assoc h.first (deeper_text h.more) (10 ∷ line)
      ∙ ap (λ (t : List ℕ). h.first ++ (deeper_text h.more ++ 10 ∷ t)) (sym (append-nil line))
      ∙ ap (λ (t : List ℕ). h.first ++ t) (sym (deeper_append h.more (line ∷ [])));
}

extended_all : (P : HItem → Type 0) (line : List ℕ) → ((it : HItem) → P it → P (with_line line it)) →
    (items : List HItem) → AllByRecursion P items → AllByRecursion P (extended line items)
extended_all P line f [] h = tt
extended_all P line f (it ∷ []) h = (f it h.0, tt)
extended_all P line f (it ∷ next ∷ items) h = (h.0, extended_all P line f (next ∷ items) h.1)

extended_long : (line : List ℕ) (items : List HItem) → length (extended line items) ≡ length items
extended_long line [] = refl
extended_long line (it ∷ []) = refl
extended_long line (it ∷ next ∷ items) = ap suc (extended_long line (next ∷ items))

extended_keeps : (line : List ℕ) → IsClean line → (items : List HItem) → IsCleanPara items →
    IsCleanPara (extended line items)
extended_keeps line clean items h = record {
  para = record {
    few = subst (λ (n : ℕ). n ≤ para_limit) (sym (extended_long line items)) h.para.few;
    ranges = extended_all IsInRange line (longer_in_range line) items h.para.ranges;
  };
  clean = extended_all HasCleanLines line (longer_clean line clean) items h.clean;
}

-- ---- what each step keeps

record IsCleanDraft (s : Draft) : Type 0 where
  paras : AllByRecursion IsCleanPara s.paras
  current : IfSome s.current IsCleanPara

none_yet : IsCleanPara []
none_yet = record { para = record { few = omega arith; ranges = tt }; clean = tt }

placed_keeps : (s : Draft) (o : Option (List HItem)) (it : HItem) → AllByRecursion IsCleanPara s.paras →
    IfSome o IsCleanPara → IsInRange it → HasCleanLines it → IfOk (placed s o it) IsCleanDraft
unfolding placed
placed_keeps s None it ps h r c = tt
placed_keeps s (Some items) it ps h r c = by (nat_lt (length items) para_limit) refl
  where
    by : (b : Bool) → nat_lt (length items) para_limit ≡ b →
        IfOk {T = Draft} {E = ListKind} (if b then Ok (opened s (items ++ it ∷ [])) else Err Limit) IsCleanDraft
    by true e = record {
      paras = ps;
      current = record {
        para = grown items (items ++ it ∷ []) it h.para r (less_true (length items) para_limit e) refl;
        clean = all_append HasCleanLines items (it ∷ []) h.clean (c, tt);
      };
    }
    by false e = tt

longer_keeps : (s : Draft) (o : Option (List HItem)) (line : List ℕ) → AllByRecursion IsCleanPara s.paras →
    IfSome o IsCleanPara → IsClean line → IfOk (longer_last s o line) IsCleanDraft
unfolding longer_last
longer_keeps s None line ps h clean = tt
longer_keeps s (Some []) line ps h clean = tt
longer_keeps s (Some (it ∷ items)) line ps h clean =
    record { paras = ps; current = extended_keeps line clean (it ∷ items) h }

ended_keeps : (paras : List (List HItem)) (o : Option (List HItem)) → AllByRecursion IsCleanPara paras →
    IfSome o IsCleanPara → AllByRecursion IsCleanPara (ended paras o)
ended_keeps paras None ps h = ps
ended_keeps paras (Some items) ps h = all_append IsCleanPara paras (items ∷ []) ps (h, tt)

step_keeps : (s : Draft) (what : ParaLine) (line : List ℕ) → IsClean line → IsSaid line what → IsCleanDraft s →
    IfOk (step s what line) IsCleanDraft
unfolding step
step_keeps s Nothing line clean p h = h
step_keeps s Blank line clean p h = record { paras = ended_keeps s.paras s.current h.paras h.current; current = tt }
step_keeps s Root line clean p h = record { paras = h.paras; current = none_yet }
step_keeps s (Item n) line clean p h =
    placed_keeps s s.current (node_item n (past (codes ".") line)) h.paras h.current
    (node_in_range n (past (codes ".") line) p.0) (node_clean n (past (codes ".") line) (rest_clean line clean p.1))
step_keeps s Deeper line clean p h =
    longer_keeps s s.current (past (codes ".") line) h.paras h.current (rest_clean line clean p)

-- ---- all lines

line_keeps : (s : Draft) (line : List ℕ) → IsClean line → IsCleanDraft s → IfOk (line_read s line) IsCleanDraft
unfolding line_read
line_keeps s line clean h =
    bind_keeps (IsSaid line) IsCleanDraft (line_parsed (is_some s.current) line) (λ what. step s what line)
    (line_said (is_some s.current) line) (λ what p. step_keeps s what line clean p h)

then_keeps : {A B : Type 0} (P : A → Type 0) (Q : B → Type 0) (r : Result A ListFault) (f : A → Result B ListFault) →
    IfOk r P → ((x : A) → P x → IfOk (f x) Q) → IfOk (then_ok r f) Q
then_keeps P Q (Ok x) f h g = g x h
then_keeps P Q (Err fault) f h g = tt

at_line_keeps : (n : ℕ) (r : Result Draft ListKind) → IfOk r IsCleanDraft → IfOk (at_line n r) IsCleanDraft
at_line_keeps n (Ok s) h = h
at_line_keeps n (Err kind) h = tt

run_keeps : (s : Draft) (lines : List Line) → AllByRecursion IsCleanLine lines → IsCleanDraft s →
    IfOk (run s lines) IsCleanDraft
unfolding run
run_keeps s [] clean h = h
run_keeps s (line ∷ lines) clean h =
    then_keeps IsCleanDraft IsCleanDraft (at_line line.number (line_read s line.text)) (λ t. run t lines)
    (at_line_keeps line.number (line_read s line.text) (line_keeps s line.text clean.0 h))
    (λ t k. run_keeps t lines clean.1 k)

some_keep : (paras : List (List HItem)) → AllByRecursion IsCleanPara paras →
    IfOk (some_paras paras) (AllByRecursion IsCleanPara)
some_keep [] h = tt
some_keep (items ∷ paras) h = h

all_clean : (text : List ℕ) → IfOk (paras_of text) (AllByRecursion IsCleanPara)
unfolding paras_of
all_clean text =
    then_keeps IsCleanDraft (AllByRecursion IsCleanPara) (run empty (joined None 1 (raw_lines text)))
    (λ s. some_paras (closed s).paras)
    (run_keeps empty (joined None 1 (raw_lines text)) (joined_clean None 1 text) (record { paras = tt; current = tt }))
    (λ s h. some_keep (closed s).paras (ended_keeps s.paras s.current h.paras h.current))

-- paragraphs that are read are clean
pub read_clean : (text : List ℕ) (paras : List (List HItem)) → paras_of text ≡ Ok paras →
    AllByRecursion IsCleanPara paras
read_clean text paras e =
    subst (λ (r : Result (List (List HItem)) ListFault). IfOk r (AllByRecursion IsCleanPara)) e (all_clean text)
