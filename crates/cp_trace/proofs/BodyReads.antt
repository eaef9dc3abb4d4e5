-- What the front of bytes tells of the branch that stands there.
use Rattle.std.proofs.Common.{◌≡◌, ◌⊎◌, ℕ, ◌<◌, ◌^◌, codes, List, [], ◌∷◌, ◌++◌, length, map, inl, inr, sym, refl, ap, ◌∙◌, subst, arith, append_assoc}
use Rattle.std.specs.List.{flat_map}
use Rattle.std.specs.Fmt.{decimal}
use Rattle.std.proofs.lemmas.List.{append-nil}
use Rattle.cp_base.specs.declared.shape.Branch.{Branch}
use Rattle.cp_base.specs.declared.shape.Branch.TheVariants.{Leaf, P, Q}
use Rattle.cp_base.specs.Shapes.{leaves}
use Rattle.cp_trace.specs.Faults.{AreSmall}
use Rattle.cp_trace.specs.Bodies.{AreKidsAt, GoOnWith, HasNoDigit, IsBodyAt, kids_text, spaced_kids}
use Rattle.cp_trace.specs.Texts.{body_text}
use Rattle.cp_trace.proofs.BodySame.{AreSmallKids, body_same, branch_cases, first_byte, kids_go_on, kids_no_bracket, leaves-Leaf, leaves-P, leaves-Q, more_kids, number_first, one_kid, small_P, small_Q, small_leaf, text_behind_Leaf, text_behind_P, text_behind_Q}
use Rattle.cp_trace.proofs.ToldLists.{all_at, all_push}

-- what holds of all items of two lists holds of those of both
all_both : (xs ys : List ℕ) → AreSmall xs → AreSmall ys → AreSmall (xs ++ ys)
all_both [] ys sx sy = sy
all_both (x ∷ xs) ys sx sy = (sx.0, all_both xs ys sx.1 sy)

-- the leaves of all kids are small
small_leaves : (kids : List Branch) → AreSmallKids kids → AreSmall (flat_map (λ ls. ls) (map leaves kids))
small_leaves [] small = tt
small_leaves (k ∷ ks) small =
    all_both (leaves k) (flat_map (λ ls. ls) (map leaves ks)) small.0 (small_leaves ks small.1)

-- a leaf at the front
pub leaf_at : (bytes : List ℕ) (x : ℕ) (rest : List ℕ) → x < 2 ^ 63 → HasNoDigit rest → bytes ≡ decimal x ++ rest
    → IsBodyAt bytes (Leaf x) rest
leaf_at bytes x rest small ends h = record {
  small = subst AreSmall (sym (leaves-Leaf x)) (small, tt);
  ends = ends;
  spelled = h ∙ sym (text_behind_Leaf x rest);
}

-- a P-node at the front
pub P_at : (bytes inside : List ℕ) (kids : List Branch) (rest : List ℕ) → bytes ≡ codes "P[" ++ inside
    → AreKidsAt inside kids rest → IsBodyAt bytes (P kids) rest
P_at bytes inside kids rest h are = record {
  small = subst AreSmall (sym (leaves-P kids)) (small_leaves kids are.small);
  ends = are.ends;
  spelled = h ∙ ap (λ t. 80 ∷ 91 ∷ t) are.spelled ∙ sym (text_behind_P kids rest);
}

-- a Q-node at the front
pub Q_at : (bytes inside : List ℕ) (kids : List Branch) (rest : List ℕ) → bytes ≡ codes "Q[" ++ inside
    → AreKidsAt inside kids rest → IsBodyAt bytes (Q kids) rest
Q_at bytes inside kids rest h are = record {
  small = subst AreSmall (sym (leaves-Q kids)) (small_leaves kids are.small);
  ends = are.ends;
  spelled = h ∙ ap (λ t. 81 ∷ 91 ∷ t) are.spelled ∙ sym (text_behind_Q kids rest);
}

-- no branch stands at the front
abbrev pub HasNoBody : List ℕ → Type 0
HasNoBody bytes = (b : Branch) (rest : List ℕ) → IsBodyAt bytes b rest → ⊥

-- no kids stand at the front
abbrev pub HasNoKids : List ℕ → Type 0
HasNoKids bytes = (kids : List Branch) (rest : List ℕ) → AreKidsAt bytes kids rest → ⊥

-- behind the letter of a P-node stand no kids
pub no_P : (bytes inside : List ℕ) → bytes ≡ codes "P[" ++ inside → HasNoKids inside → HasNoBody bytes
no_P bytes inside h none = branch_cases (λ b. (rest : List ℕ) → IsBodyAt bytes b rest → ⊥)
    (λ x rest at.
    let first = number_first x rest (small_leaf x at.small) in
    let same : first_byte (decimal x ++ rest) ≡ 80 = ap first_byte (sym (at.spelled ∙ text_behind_Leaf x rest) ∙ h) in
    omega (arith, first.1, same))
    (λ kids rest at.
    let text : 80 ∷ 91 ∷ inside ≡ 80 ∷ 91 ∷ (kids_text kids ++ rest) = sym h ∙ at.spelled ∙ text_behind_P kids rest in
    none kids rest (record { small = small_P kids at.small; ends = at.ends; spelled = cc }))
    (λ kids rest at.
    let same : 80 ≡ first_byte (81 ∷ 91 ∷ (kids_text kids ++ rest)) =
    ap first_byte (sym h ∙ at.spelled ∙ text_behind_Q kids rest) in
    omega (arith, same))

-- behind the letter of a Q-node stand no kids
pub no_Q : (bytes inside : List ℕ) → bytes ≡ codes "Q[" ++ inside → HasNoKids inside → HasNoBody bytes
no_Q bytes inside h none = branch_cases (λ b. (rest : List ℕ) → IsBodyAt bytes b rest → ⊥)
    (λ x rest at.
    let first = number_first x rest (small_leaf x at.small) in
    let same : first_byte (decimal x ++ rest) ≡ 81 = ap first_byte (sym (at.spelled ∙ text_behind_Leaf x rest) ∙ h) in
    omega (arith, first.1, same))
    (λ kids rest at.
    let same : 81 ≡ first_byte (80 ∷ 91 ∷ (kids_text kids ++ rest)) =
    ap first_byte (sym h ∙ at.spelled ∙ text_behind_P kids rest) in
    omega (arith, same))
    (λ kids rest at.
    let text : 81 ∷ 91 ∷ inside ≡ 81 ∷ 91 ∷ (kids_text kids ++ rest) = sym h ∙ at.spelled ∙ text_behind_Q kids rest in
    none kids rest (record { small = small_Q kids at.small; ends = at.ends; spelled = cc }))

-- neither letter and no number stands at the front
pub no_body : (bytes : List ℕ) → ((after : List ℕ) → bytes ≡ codes "P[" ++ after → ⊥)
    → ((after : List ℕ) → bytes ≡ codes "Q[" ++ after → ⊥)
    → ((x : ℕ) (rest : List ℕ) → x < 2 ^ 63 → HasNoDigit rest → bytes ≡ decimal x ++ rest → ⊥) → HasNoBody bytes
no_body bytes no_p no_q no_leaf = branch_cases (λ b. (rest : List ℕ) → IsBodyAt bytes b rest → ⊥)
    (λ x rest at. no_leaf x rest (small_leaf x at.small) at.ends (at.spelled ∙ text_behind_Leaf x rest))
    (λ kids rest at. no_p (kids_text kids ++ rest) (at.spelled ∙ text_behind_P kids rest))
    (λ kids rest at. no_q (kids_text kids ++ rest) (at.spelled ∙ text_behind_Q kids rest))

-- the bracket at once
pub bracket_at : (bytes after : List ℕ) → bytes ≡ codes "]" ++ after → HasNoDigit after → AreKidsAt bytes [] after
bracket_at bytes after h ends = record { small = tt; ends = ends; spelled = h }

-- the bracket at once, and a digit behind it
pub no_kids_at_bracket : (bytes after : List ℕ) → bytes ≡ codes "]" ++ after → (HasNoDigit after → ⊥) → HasNoKids bytes
no_kids_at_bracket bytes after h digit [] rest are =
    let text : 93 ∷ after ≡ 93 ∷ rest = sym h ∙ are.spelled in
    let same : rest ≡ after = cc in
    digit (subst HasNoDigit same are.ends)
no_kids_at_bracket bytes after h digit (k ∷ ks) rest are = kids_no_bracket k ks rest after are.small.0 (sym h ∙
    are.spelled)

-- no kid is read at first
pub no_kid_read : (bytes : List ℕ) → ((after : List ℕ) → bytes ≡ codes "]" ++ after → ⊥) → GoOnWith bytes [] bytes
no_kid_read bytes none = record { small = tt; spelled = refl; due = λ after e h. none after h }

-- the kids that stand at the front begin with those that were read
next_kid : (bytes text : List ℕ) (ds ks : List Branch) (rest : List ℕ) → GoOnWith bytes ds text
    → AreKidsAt bytes ks rest
    → (m : Branch) × (more : List Branch) × (ks ≡ ds ++ m ∷ more) × (text ≡ kids_text (m ∷ more) ++ rest)
next_kid bytes text ds ks rest go are =
    kids_go_on ds ks text rest go.small are.small (due ds ks go are) (sym go.spelled ∙ are.spelled)
  where
    due : (es ls : List Branch) → GoOnWith bytes es text → AreKidsAt bytes ls rest → es ≡ [] → ls ≡ [] → ⊥
    due [] [] g a e f = g.due rest refl (sym g.spelled ∙ a.spelled)
    due [] (l ∷ ls) g a e f = absurd cc
    due (x ∷ es) ls g a e f = absurd cc

-- a kid that is due stands at the front of the text
kid_due : (text : List ℕ) (m : Branch) (more : List Branch) (rest : List ℕ) → AreSmall (leaves m)
    → text ≡ kids_text (m ∷ more) ++ rest
    → (behind : List ℕ) × IsBodyAt text m behind × ((behind ≡ 93 ∷ rest) ⊎ ((after : List ℕ) × (behind ≡ 32 ∷ after)))
kid_due text m [] rest small h =
    (93 ∷ rest, record { small = small; ends = inr (omega arith); spelled = h ∙ one_kid m rest }, inl refl)
kid_due text m (l ∷ more) rest small h = (
  32 ∷ (kids_text (l ∷ more) ++ rest),
  record { small = small; ends = inl (omega arith); spelled = h ∙ more_kids m l more rest },
  inr (kids_text (l ∷ more) ++ rest, refl),
)

-- where no branch stands in the place of a kid that is due, no kids stand at the front
pub no_kid : (bytes text : List ℕ) (ds : List Branch) → GoOnWith bytes ds text → HasNoBody text → HasNoKids bytes
no_kid bytes text ds go none ks rest are =
    let next = next_kid bytes text ds ks rest go are in
    let small = all_at (λ k. AreSmall (leaves k)) ds next.0 next.1 (subst AreSmallKids next.2 are.small) in
    let here = kid_due text next.0 next.1 rest small next.3 in
    none next.0 here.0 here.1

-- behind a kid that was read comes the closing bracket or a blank
pub behind_kid : (bytes text : List ℕ) (ds : List Branch) (kid : Branch) (behind : List ℕ) (ks : List Branch)
    (rest : List ℕ) → GoOnWith bytes ds text → IsBodyAt text kid behind → AreKidsAt bytes ks rest
    → (behind ≡ 93 ∷ rest) ⊎ ((after : List ℕ) × (behind ≡ 32 ∷ after))
behind_kid bytes text ds kid behind ks rest go at are =
    let next = next_kid bytes text ds ks rest go are in
    let small = all_at (λ k. AreSmall (leaves k)) ds next.0 next.1 (subst AreSmallKids next.2 are.small) in
    let here = kid_due text next.0 next.1 rest small next.3 in
    let same = body_same kid next.0 behind here.0 at.small here.1.small at.ends here.1.ends
    (sym at.spelled ∙ here.1.spelled) in
    subst (λ t. (t ≡ 93 ∷ rest) ⊎ ((after : List ℕ) × (t ≡ 32 ∷ after))) (sym same.1) here.2

-- nothing stands behind the kid
pub nothing_behind : (bytes text : List ℕ) (ds : List Branch) (kid : Branch) (behind : List ℕ) → GoOnWith bytes ds text
    → IsBodyAt text kid behind → length behind ≡ 0 → HasNoKids bytes
nothing_behind bytes text ds kid behind go at none ks rest are =
    elim (behind_kid bytes text ds kid behind ks rest go at are) [
      | inl e ↦ omega (arith, none, ap (length {A = ℕ}) e)
      | inr e ↦ omega (arith, none, ap (length {A = ℕ}) e.1)
    ]

-- another byte stands behind the kid, or a digit behind the bracket
pub wrong_behind : (bytes text : List ℕ) (ds : List Branch) (kid : Branch) (behind : List ℕ) (byte : ℕ) (after : List ℕ)
    → GoOnWith bytes ds text → IsBodyAt text kid behind → behind ≡ byte ∷ after → (byte ≡ 32 → ⊥)
    → (byte ≡ 93 → HasNoDigit after → ⊥) → HasNoKids bytes
wrong_behind bytes text ds kid behind byte after go at is no_blank no_end ks rest are =
    elim (behind_kid bytes text ds kid behind ks rest go at are) [
      | inl e ↦ (let f : byte ∷ after ≡ 93 ∷ rest = sym is ∙ e in
          let same : rest ≡ after = cc in
          no_end (cc) (subst HasNoDigit same are.ends))
      | inr e ↦ (let f : byte ∷ after ≡ 32 ∷ e.0 = sym is ∙ e.1 in no_blank (cc))
    ]

-- kids with one blank behind each, and one more
spaced_push : (ds : List Branch) (k : Branch) (after : List ℕ)
    → spaced_kids ds ++ (body_text k ++ 32 ∷ after) ≡ spaced_kids (ds ++ k ∷ []) ++ after
spaced_push [] k after =
    sym (append_assoc (body_text k ++ 32 ∷ []) [] after ∙ append_assoc (body_text k) (32 ∷ []) after)
spaced_push (d ∷ ds) k after =
    append_assoc (body_text d ++ 32 ∷ []) (spaced_kids ds) (body_text k ++ 32 ∷ after)
    ∙ ap (λ t. (body_text d ++ 32 ∷ []) ++ t) (spaced_push ds k after)
    ∙ sym (append_assoc (body_text d ++ 32 ∷ []) (spaced_kids (ds ++ k ∷ [])) after)

-- and the bracket behind the last one
spaced_end : (ds : List Branch) (k : Branch) (after : List ℕ)
    → spaced_kids ds ++ (body_text k ++ 93 ∷ after) ≡ kids_text (ds ++ k ∷ []) ++ after
spaced_end [] k after = sym (one_kid k after)
spaced_end (d ∷ []) k after =
    append_assoc (body_text d ++ 32 ∷ []) [] (body_text k ++ 93 ∷ after)
    ∙ append_assoc (body_text d) (32 ∷ []) (body_text k ++ 93 ∷ after)
    ∙ ap (λ t. body_text d ++ 32 ∷ t) (sym (one_kid k after))
    ∙ sym (more_kids d k [] after)
spaced_end (d ∷ e ∷ ds) k after =
    append_assoc (body_text d ++ 32 ∷ []) (spaced_kids (e ∷ ds)) (body_text k ++ 93 ∷ after)
    ∙ append_assoc (body_text d) (32 ∷ []) (spaced_kids (e ∷ ds) ++ (body_text k ++ 93 ∷ after))
    ∙ ap (λ t. body_text d ++ 32 ∷ t) (spaced_end (e ∷ ds) k after)
    ∙ sym (more_kids d e (ds ++ k ∷ []) after)

-- one kid more is read
pub kid_read : (bytes text : List ℕ) (ds : List Branch) (kid : Branch) (behind : List ℕ) (byte : ℕ) (after : List ℕ)
    → GoOnWith bytes ds text → IsBodyAt text kid behind → behind ≡ byte ∷ after → byte ≡ 32
    → GoOnWith bytes (ds ++ kid ∷ []) after
kid_read bytes text ds kid behind byte after go at is blank = record {
  small = all_push (λ k. AreSmall (leaves k)) ds kid go.small at.small;
  spelled =
      go.spelled
      ∙ ap (λ t. spaced_kids ds ++ t)
      (at.spelled ∙ ap (λ t. body_text kid ++ t) (is ∙ ap (λ b. b ∷ after) blank))
      ∙ spaced_push ds kid after;
  due = λ other none h. no_end ds none;
}
  where
    no_end : (es : List Branch) → es ++ kid ∷ [] ≡ [] → ⊥
    no_end [] h = absurd cc
    no_end (e ∷ es) h = absurd cc

-- the last kid is read
pub kids_read : (bytes text : List ℕ) (ds : List Branch) (kid : Branch) (behind : List ℕ) (byte : ℕ) (after : List ℕ)
    → GoOnWith bytes ds text → IsBodyAt text kid behind → behind ≡ byte ∷ after → byte ≡ 93 → HasNoDigit after
    → AreKidsAt bytes (ds ++ kid ∷ []) after
kids_read bytes text ds kid behind byte after go at is bracket ends = record {
  small = all_push (λ k. AreSmall (leaves k)) ds kid go.small at.small;
  ends = ends;
  spelled =
      go.spelled
      ∙ ap (λ t. spaced_kids ds ++ t)
      (at.spelled ∙ ap (λ t. body_text kid ++ t) (is ∙ ap (λ b. b ∷ after) bracket))
      ∙ spaced_end ds kid after;
}

-- the last kid is read, as the code has it
pub kids_closed : (bytes text : List ℕ) (ds : List Branch) (kid : Branch) (behind : List ℕ) (byte : ℕ) (after : List ℕ)
    (pushed all : List Branch) (rest : List ℕ) → GoOnWith bytes ds text → IsBodyAt text kid behind
    → behind ≡ byte ∷ after → pushed ≡ ds ++ kid ∷ []
    → (byte ≡ 93) × HasNoDigit rest × (all ≡ pushed) × (rest ≡ after) → AreKidsAt bytes all rest
kids_closed bytes text ds kid behind byte after pushed all rest go at is push told =
    let read = kids_read bytes text ds kid behind byte after go at is told.0 (subst HasNoDigit told.3 told.1) in
    let first = subst (λ (ks : List Branch). AreKidsAt bytes ks after) (sym (told.2 ∙ push)) read in
    subst (λ (t : List ℕ). AreKidsAt bytes all t) (sym told.3) first

-- bytes that are the text of a branch begin with one
pub no_shape : (bytes : List ℕ) → HasNoBody bytes → (b : Branch) → AreSmall (leaves b) → bytes ≡ body_text b → ⊥
no_shape bytes none b small h =
    none b [] (record { small = small; ends = tt; spelled = h ∙ sym (append-nil (body_text b)) })

-- bytes behind which more stands are the text of none
pub more_than_shape : (bytes : List ℕ) (body : Branch) (rest : List ℕ) → IsBodyAt bytes body rest → (rest ≡ [] → ⊥)
    → (b : Branch) → AreSmall (leaves b) → bytes ≡ body_text b → ⊥
more_than_shape bytes body rest at some b small h =
    some (body_same body b rest [] at.small small at.ends tt (sym at.spelled ∙ h ∙ sym (append-nil (body_text b)))).1
