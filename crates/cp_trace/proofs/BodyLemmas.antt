-- The text of a shape, layer by layer and kid by kid.
use Rattle.std.proofs.Common.{◌≡◌, ℕ, ◌+◌, ◌<◌, Bool, false, cond, eqb, codes, List, [], ◌∷◌, ◌++◌, length, map, take, get_or, sym, refl, ap, ◌∙◌, arith, append_assoc}
use Rattle.std.specs.List.{join_with_byte}
use Rattle.std.specs.Fmt.{decimal}
use Rattle.std.proofs.lemmas.Bool.{ne_eqb}
use Rattle.std.proofs.lemmas.List.{take_more, length-take-le, length-map, map-append}
use Rattle.cp_base.specs.declared.shape.Branch.{Branch}
use Rattle.cp_base.specs.declared.shape.Branch.TheOpen.{Branch-F}
use Rattle.cp_base.specs.declared.shape.Branch.TheFolds.{fold-roll-Branch}
use Rattle.cp_base.specs.declared.shape.Branch.TheVariants.{Leaf, P, Q, rolls-Leaf, rolls-P, rolls-Q}
use Rattle.cp_trace.specs.Texts.{body_text, body_step}

-- the text of a leaf
pub body_text-Leaf : (x : ℕ) → body_text (Leaf x) ≡ decimal x
unfolding body_text
body_text-Leaf x = ap body_text (sym (rolls-Leaf x)) ∙ fold-roll-Branch (List ℕ) body_step (Branch-F.Leaf x)

-- the text of a P-node
pub body_text-P : (kids : List Branch) → body_text (P kids)
    ≡ codes "P[" ++ join_with_byte 32 (map body_text kids) ++ codes "]"
unfolding body_text
body_text-P kids = ap body_text (sym (rolls-P kids)) ∙ fold-roll-Branch (List ℕ) body_step (Branch-F.P kids)

-- the text of a Q-node
pub body_text-Q : (kids : List Branch) → body_text (Q kids)
    ≡ codes "Q[" ++ join_with_byte 32 (map body_text kids) ++ codes "]"
unfolding body_text
body_text-Q kids = ap body_text (sym (rolls-Q kids)) ∙ fold-roll-Branch (List ℕ) body_step (Branch-F.Q kids)

-- a letter, and then the kids in brackets
pub inner_written : (letter : ℕ) (old mid kids : List ℕ) → mid ≡ old ++ letter ∷ []
    → mid ++ 91 ∷ kids ++ 93 ∷ [] ≡ old ++ (letter ∷ 91 ∷ kids ++ 93 ∷ [])
inner_written letter old mid kids e =
    ap (λ t. t ++ 91 ∷ kids ++ 93 ∷ []) e
    ∙ ap (λ t. t ++ 93 ∷ []) (append_assoc old (letter ∷ []) (91 ∷ kids))
    ∙ append_assoc old (letter ∷ 91 ∷ kids) (93 ∷ [])

-- the blank in front of a kid, but for the first
abbrev pub gap : Bool → List ℕ
gap is_first = cond is_first [] (32 ∷ [])

-- one text more behind others
join_push : (x : List ℕ) (xs : List (List ℕ)) (y : List ℕ)
    → join_with_byte 32 (x ∷ xs ++ y ∷ []) ≡ join_with_byte 32 (x ∷ xs) ++ 32 ∷ [] ++ y
join_push x [] y = sym (append_assoc x (32 ∷ []) y)
join_push x (z ∷ xs) y =
    let row : List ℕ = join_with_byte 32 (z ∷ xs) in
    ap (λ t. x ++ 32 ∷ t) (join_push z xs y)
    ∙ sym (ap (λ t. t ++ y) (append_assoc x (32 ∷ row) (32 ∷ [])) ∙ append_assoc x (32 ∷ (row ++ 32 ∷ [])) y)

-- one text more in a row
join_more : (xs : List (List ℕ)) (y : List ℕ)
    → join_with_byte 32 (xs ++ y ∷ []) ≡ join_with_byte 32 xs ++ gap (eqb (length xs) 0) ++ y
join_more [] y = refl
join_more (x ∷ xs) y =
    join_push x xs y
    ∙ ap (λ g. join_with_byte 32 (x ∷ xs) ++ g ++ y) (sym (ap gap (ne_eqb (length (x ∷ xs)) 0 (λ e. omega (arith, e)))))

-- what is written after one kid more
pub kids_more : (kids : List Branch) (k : ℕ) (kid : Branch) (is_first : Bool) (old before mid after : List ℕ)
    → k < length kids
    → kid ≡ get_or kids k kid
    → is_first ≡ eqb k 0
    → before ≡ old ++ 91 ∷ join_with_byte 32 (map body_text (take k kids))
    → mid ≡ before ++ gap is_first
    → after ≡ mid ++ body_text kid
    → after ≡ old ++ 91 ∷ join_with_byte 32 (map body_text (take (k + 1) kids))
kids_more kids k kid is_first old before mid after lt at flag so_far spaced more =
    let texts : List (List ℕ) = map body_text (take k kids) in
    let row : map body_text (take (k + 1) kids) ≡ texts ++ body_text kid ∷ [] =
    ap (map body_text) (take_more kids k kid lt ∙ ap (λ x. take k kids ++ x ∷ []) (sym at)) ∙ map-append body_text
    (take k kids) (kid ∷ []) in
    let count : length texts ≡ k = length-map (take k kids) body_text ∙ length-take-le k kids (omega (arith, lt)) in
    let blank : gap is_first ≡ gap (eqb (length texts) 0) = ap gap (flag ∙ ap (λ n. eqb n 0) (sym count)) in
    more
    ∙ ap (λ t. t ++ body_text kid)
    (spaced ∙ ap (λ t. t ++ gap is_first) so_far ∙ append_assoc old (91 ∷ join_with_byte 32 texts) (gap is_first))
    ∙ append_assoc old (91 ∷ (join_with_byte 32 texts ++ gap is_first)) (body_text kid)
    ∙ ap (λ g. old ++ 91 ∷ (join_with_byte 32 texts ++ g ++ body_text kid)) blank
    ∙ ap (λ t. old ++ 91 ∷ t) (sym (ap (join_with_byte 32) row ∙ join_more texts (body_text kid)))

-- the second kid is not the first
pub not_first : (k : ℕ) → false ≡ eqb (k + 1) 0
not_first k = sym (ne_eqb (k + 1) 0 (λ e. omega (arith, e)))
