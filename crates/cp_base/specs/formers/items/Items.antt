-- How a growing list holds its items, so that a type may hold a list of itself. The value of a list
-- is the list of its items, and it owns, lends and codes them one by one, as its vector does.
use Rattle.std.specs.Prelude.{◌≡◌, List, []}
use mathlib.Core.Path.{refl, sym}
use mathlib.Core.Former.{Former, this, list, via, children}
use base.Stored.{code_map}
use denote.RattleType.{RattleType}
use denote.HoleLaws.{Alike}
use denote.HolePlaces.{Recodes, struct_places, laid}
use denote.Hole.Carrier.{listed, list-listed}
use denote.Hole.Fix.{over}
use denote.Param.Weighed.{Weighed, w_list}
use denote.Model.Placed.{view_places}
use Rattle.std.specs.formers.vec.Vec as vec
use Rattle.std.specs.declared.alloc.Global.{Global}
use Rattle.std.specs.contracts.alloc.Global as global
use Rattle.std.specs.contracts.impls.GlobalAllocator.TheImpl.{ghosts}
use Rattle.cp_base.specs.declared.items.Items.TheInside.{Inside}
use Rattle.cp_base.specs.declared.items.Items.TheView.{view, invariant}
use Rattle.cp_base.specs.contracts.items.Items as contract
use Rattle.cp_base.specs.contracts.items.Items.TheInside as inside

-- the shape of a list is the list of the shapes of its items
abbrev pub the_former : Former {0} → Former {0}
the_former item = list item

-- a list weighs as much as its heaviest item
abbrev pub the_weighed : {item : Former {0}} → Weighed item → Weighed (the_former item)
the_weighed weight = w_list weight

-- the empty list needs no item
pub the_empty : List ⊥
the_empty = []

-- the items that a list holds are the list itself
abbrev pub the_items : (X : Type 0) → List X → List X
the_items X items = items

pub the_items_listed : (X : Type 0) (items : List X) → listed _ (children (the_former this) X items) ≡ the_items X items
the_items_listed X items = list-listed X items

-- the fields are one vector over the common allocator
abbrev vector : Former {0}
vector = via (vec.the_former this Global) Inside (λ X fields. fields.items) (λ X items. record { items = items }) (λ X fields. refl) (λ X items. refl)

module _ (R R' : RattleType) (h : R.Denot → R'.Denot) where
  pub the_places : Alike R R' h → Alike (contract.the_row R) (contract.the_row R')
      ((the_former this).map R.Denot R'.Denot h)
  the_places alike =
      let items_alike = vec.the_places global.the_row ghosts R R' h alike in
      let fields_alike = struct_places (inside.the_type R) (inside.the_type R') (vec.mapped h, tt) _ (λ fields. refl) refl (laid _ _ _ items_alike, tt) in
      view_places vector (list this) view (λ X Y f fields. refl) (λ X fields. refl) R.Denot R'.Denot h (contract.the_row R).coded (contract.the_row R').coded
      (invariant R.Denot) (invariant R'.Denot) (λ fields p q. refl) (λ fields p q. refl) (λ fields holds. holds) (λ fields holds. holds)
      (over (inside.the_row R)) (over (inside.the_row R')) fields_alike

  pub the_codes_placed : Recodes R R' h → Recodes (contract.the_row R) (contract.the_row R')
      ((the_former this).map R.Denot R'.Denot h)
  the_codes_placed recodes items = sym (code_map R.coded.code R'.coded.code h (λ item. sym (recodes item)) items)
