use Rattle.std.proofs.Common.{◌≡◌, ◌∙◌, ℕ, ap, sym, arith, List, ◌-◌, take, drop, length}
use Rattle.std.specs.Prelude.{Some, map}
use Rattle.std.specs.String.{string_bytes}
use Rattle.pg_command.specs.Words.{is_labels, option_named, with_option, options_in}
use Rattle.pg_command.proofs.WordLemmas.{one_word, two_words, some_left, few_words, no_option, an_option, bad_option}
use Rattle.pg_command.proofs.WordLemmas.{labels_more, labels_twice}
use Rattle.pg_command.proofs.options.split_options.Goals as goal

pub returns-in_err-options-clause-value : goal.returns-in_err-options-clause-value
returns-in_err-options-clause-value c =
    let rest = map string_bytes (take (length c.options.rest.now - 1) (drop 1 c.options.rest.now)) in
    let one = one_word string_bytes c.options.rest.now c.word-item.result (omega (arith, c.in-len2-up.len_at_least))
    c.word-item.is in
    let labels : is_labels (string_bytes c.word-item.result) ≡ _ =
    ap is_labels (sym c.as_str.ensures.value) ∙ sym c.is_labels.ensures ∙ c.if-is_labels.true in
    rw c.from_residual.ensures
    (sym (c.options.invariant.said ∙ ap (options_in c.options.options) one
    ∙ labels_twice c.options.options (string_bytes c.word-item.result) rest
    (some_left string_bytes c.options.rest.now c.in-len2-up.len_at_least) labels (sym c.in_err-options.ensures.value)))

pub options-preserved-then-is_labels : goal.options-preserved-then-is_labels
options-preserved-then-is_labels c =
    let rest = map string_bytes (take (length c.options.rest.now - 1) (drop 1 c.options.rest.now)) in
    let one = one_word string_bytes c.options.rest.now c.word-item.result (omega (arith, c.in-len2-up.len_at_least))
    c.word-item.is in
    let labels : is_labels (string_bytes c.word-item.result) ≡ _ =
    ap is_labels (sym c.as_str.ensures.value) ∙ sym c.is_labels.ensures ∙ c.if-is_labels.true in
    record {
      said = c.options.invariant.said ∙ ap (options_in c.options.options) one
          ∙ labels_more c.options.options (string_bytes c.word-item.result) rest c.in_ok-options.options
          (some_left string_bytes c.options.rest.now c.in-len2-up.len_at_least) labels
          (sym c.in_ok-options.ensures.value);
      in_range = c.in_ok-options.ensures.in_range;
    }

pub returns-in_err-options-2-clause-value : goal.returns-in_err-options-2-clause-value
returns-in_err-options-2-clause-value c =
    let two = two_words string_bytes c.options.rest.now c.word-item.result c.value-item.result
    c.in-len2-up.len_at_least c.word-item.is c.value-item.is in
    let labels : is_labels (string_bytes c.word-item.result) ≡ _ =
    ap is_labels (sym c.as_str.ensures.value) ∙ sym c.is_labels.ensures ∙ c.if-is_labels.false in
    let named : option_named (string_bytes c.word-item.result) ≡ _ =
    ap option_named (sym c.as_str-else-is_labels.ensures.value) ∙ sym c.option_name.ensures ∙ c.in-Some.is in
    let option = ap (λ (value : List ℕ). with_option c.options.options c.in-Some.name value)
    (sym c.as_str-in-Some.ensures.value) ∙ sym c.in_err-options-2.ensures.value in
    rw c.from_residual-in_err-options-2.ensures
    (sym (c.options.invariant.said ∙ ap (options_in c.options.options) two
    ∙ bad_option c.options.options (string_bytes c.word-item.result) (string_bytes c.value-item.result)
    (map string_bytes (take (length c.options.rest.now - 2) (drop 2 c.options.rest.now))) c.in-Some.name labels named
    option))

pub options-preserved : goal.options-preserved
options-preserved c =
    let two = two_words string_bytes c.options.rest.now c.word-item.result c.value-item.result
    c.in-len2-up.len_at_least c.word-item.is c.value-item.is in
    let labels : is_labels (string_bytes c.word-item.result) ≡ _ =
    ap is_labels (sym c.as_str.ensures.value) ∙ sym c.is_labels.ensures ∙ c.if-is_labels.false in
    let named : option_named (string_bytes c.word-item.result) ≡ _ =
    ap option_named (sym c.as_str-else-is_labels.ensures.value) ∙ sym c.option_name.ensures ∙ c.in-Some.is in
    let option = ap (λ (value : List ℕ). with_option c.options.options c.in-Some.name value)
    (sym c.as_str-in-Some.ensures.value) ∙ sym c.in_ok-options-2.ensures.value in
    record {
      said = c.options.invariant.said ∙ ap (options_in c.options.options) two
          ∙ an_option c.options.options (string_bytes c.word-item.result) (string_bytes c.value-item.result)
          (map string_bytes (take (length c.options.rest.now - 2) (drop 2 c.options.rest.now))) c.in-Some.name
          c.in_ok-options-2.options labels named option;
      in_range = c.in_ok-options-2.ensures.in_range;
    }

pub returns-in_default-option_name-clause-value : goal.returns-in_default-option_name-clause-value
returns-in_default-option_name-clause-value c =
    let two = two_words string_bytes c.options.rest.now c.word-item.result c.value-item.result
    c.in-len2-up.len_at_least c.word-item.is c.value-item.is in
    let labels : is_labels (string_bytes c.word-item.result) ≡ _ =
    ap is_labels (sym c.as_str.ensures.value) ∙ sym c.is_labels.ensures ∙ c.if-is_labels.false in
    let named : option_named (string_bytes c.word-item.result) ≡ _ =
    ap option_named (sym c.as_str-else-is_labels.ensures.value) ∙ sym c.option_name.ensures
    ∙ c.in_default-option_name.is in
    sym (c.options.invariant.said ∙ ap (options_in c.options.options) two
    ∙ no_option c.options.options (string_bytes c.word-item.result) (string_bytes c.value-item.result)
    (map string_bytes (take (length c.options.rest.now - 2) (drop 2 c.options.rest.now))) labels named
    ∙ ap (λ (words : List (List ℕ)). Some (c.options.options, words)) (sym two))

pub returns-clause-value : goal.returns-clause-value
returns-clause-value c =
    sym (c.options.invariant.said
    ∙ few_words string_bytes c.options.options c.options.rest.now c.in_default.len_below)
