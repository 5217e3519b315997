-- Adding tokens to a text.
use Rattle.std.proofs.Common.{◌≡◌, Bool, true, refl, sym, ◌∙◌, ap, List, [], ◌∷◌, ◌++◌, append_assoc}
use Rattle.std.proofs.lemmas.List.{append-nil}
use Rattle.lisp_graph.specs.declared.world.AreaRule.{AreaRule}
use Rattle.sexpr_text.specs.declared.token.Token.{Token}
use Rattle.sexpr_print.specs.declared.token_text.TokenText.{TokenText}
use Rattle.sexpr_print.specs.Spelling.{binds, gap, token_text, tokens_text}
use Rattle.sexpr_print.specs.Writing.{Adds, added, gap_before, joined_behind}

added_append : (areas : List AreaRule) (joined : Bool) (front back : List Token) → added areas joined (front ++ back) ≡ added areas joined front ++ added areas (joined_behind joined front) back
added_append areas joined [] back = refl
added_append areas joined (token ∷ front) back =
    ap (λ l. gap_before joined token ++ (token_text areas token ++ l)) (added_append areas (binds token) front back)
    ∙ ap (λ l. gap_before joined token ++ l) (sym (append_assoc (token_text areas token) (added areas (binds token) front) (added areas (joined_behind (binds token) front) back)))
    ∙ sym (append_assoc (gap_before joined token) (token_text areas token ++ added areas (binds token) front) (added areas (joined_behind (binds token) front) back))

joined_append : (joined : Bool) (front back : List Token) → joined_behind joined (front ++ back) ≡ joined_behind (joined_behind joined front) back
joined_append joined [] back = refl
joined_append joined (token ∷ front) back = joined_append (binds token) front back

pub adds_none : (areas : List AreaRule) (text : TokenText) → Adds areas [] text text
adds_none areas text = record { text = sym (append-nil text.text); joined = refl }

pub adds_then : (areas : List AreaRule) (front back : List Token) (one two three : TokenText) → Adds areas front one two → Adds areas back two three → Adds areas (front ++ back) one three
adds_then areas front back one two three first second = record {
  text = second.text ∙ ap (λ l. l ++ added areas two.joined back) first.text ∙ append_assoc one.text (added areas one.joined front) (added areas two.joined back)
      ∙ ap (λ b. one.text ++ (added areas one.joined front ++ added areas b back)) first.joined
      ∙ ap (λ l. one.text ++ l) (sym (added_append areas one.joined front back));
  joined = second.joined ∙ ap (λ b. joined_behind b back) first.joined ∙ sym (joined_append one.joined front back);
}

-- The text of a whole line

behind_first : (areas : List AreaRule) (token : Token) (tokens : List Token) → gap token tokens ++ tokens_text areas tokens ≡ added areas (binds token) tokens
behind_first areas token [] = refl
behind_first areas token (next ∷ tokens) =
    ap (λ l. gap_before (binds token) next ++ l)
    (append_assoc (token_text areas next) (gap next tokens) (tokens_text areas tokens) ∙ ap (λ l. token_text areas next ++ l) (behind_first areas next tokens))

pub line_is : (areas : List AreaRule) (tokens : List Token) → tokens_text areas tokens ≡ added areas true tokens
line_is areas [] = refl
line_is areas (token ∷ tokens) = append_assoc (token_text areas token) (gap token tokens) (tokens_text areas tokens) ∙ ap (λ l. token_text areas token ++ l) (behind_first areas token tokens)
