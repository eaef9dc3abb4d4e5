-- The text of a run, part by part.
use Rattle.std.proofs.Common.{◌≡◌, ℕ, List, [], ◌∷◌, ◌++◌, sym, ap, ◌∙◌}
use Rattle.std.proofs.lemmas.Grind.{flat_map-append}
use Rattle.cp_trace.specs.Texts.{text_of}

-- a line with its line feed
abbrev fed : List ℕ → List ℕ
fed line = line ++ 10 ∷ []

-- the text of a heading and four parts
whole_text : (heading : List ℕ) (first steps last end : List (List ℕ))
    → text_of (heading ∷ first ++ steps ++ last ++ end)
    ≡ fed heading ++ text_of first ++ text_of steps ++ text_of last ++ text_of end
whole_text heading first steps last end =
    flat_map-append fed (heading ∷ first ++ steps ++ last) end
    ∙ ap (λ t. t ++ text_of end) (flat_map-append fed (heading ∷ first ++ steps) last
    ∙ ap (λ t. t ++ text_of last) (flat_map-append fed (heading ∷ first) steps))

-- what is written part by part
pub run_text : (heading : List ℕ) (first steps last end : List (List ℕ))
    (start head with_first with_steps with_last whole : List ℕ)
    → start ≡ []
    → head ≡ start ++ fed heading
    → with_first ≡ head ++ text_of first
    → with_steps ≡ with_first ++ text_of steps
    → with_last ≡ with_steps ++ text_of last
    → whole ≡ with_last ++ text_of end
    → whole ≡ text_of (heading ∷ first ++ steps ++ last ++ end)
run_text heading first steps last end start head with_first with_steps with_last whole e0 e1 e2 e3 e4 e5 =
    e5 ∙ ap (λ t. t ++ text_of end) (e4 ∙ ap (λ t. t ++ text_of last) (e3 ∙ ap (λ t. t ++ text_of steps)
    (e2 ∙ ap (λ t. t ++ text_of first) (e1 ∙ ap (λ t. t ++ fed heading) e0))))
    ∙ sym (whole_text heading first steps last end)
