-- Items of sets and masks, one more at a time.
use Rattle.std.proofs.Common.{◌≡◌, Bool, ◌&&◌, List, ◌∷◌, Option, Some, None, is_some, refl, ap, ◌∙◌, sym}
use Rattle.conf_ast.specs.declared.filters.Item.{Item}
use Rattle.conf_ast.specs.declared.filters.MaskItem.{MaskItem}
use Rattle.filt_meaning.specs.declared.value.Sort.{Sort}
use Rattle.filt_types.specs.declared.refusal.Refusal.{Refusal}
use Rattle.filt_types.specs.Items.{Common, common, with_sort, all_known, is_known, sort_of_item, sorts_of_items, item, all_items, atom, all_atoms, names_in_atom, names_in_mask}
use Rattle.filt_types.specs.Refusals.{first_in}
use Rattle.filt_types.specs.Scenes.{Scene}
use Rattle.filt_types.proofs.Firsts.{first_rest, known_append, and_apart}

known_more : (s : Option Sort) (ss : List (Option Sort)) → all_known (s ∷ ss) ≡ (is_some s && all_known ss)
known_more None ss = refl
known_more (Some sort) ss = refl

pub common_more : (scene : Scene) (xs more : List Item) (i : Item) (start c d : Common) (s : Option Sort) → common start (sorts_of_items scene xs) ≡ common c (sorts_of_items scene (i ∷ more)) → s ≡ sort_of_item scene i → d ≡ with_sort c s → common start (sorts_of_items scene xs) ≡ common d (sorts_of_items scene more)
common_more scene xs more i start c d s before is with = before ∙ ap (λ (t : Option Sort). common (with_sort c t) (sorts_of_items scene more)) (sym is) ∙ ap (λ (e : Common). common e (sorts_of_items scene more)) (sym with)

pub all_known_more : (scene : Scene) (xs more : List Item) (i : Item) (known some : Bool) (s : Option Sort) → all_known (sorts_of_items scene xs) ≡ (known && all_known (sorts_of_items scene (i ∷ more))) → s ≡ sort_of_item scene i → some ≡ is_some s → all_known (sorts_of_items scene xs) ≡ ((known && some) && all_known (sorts_of_items scene more))
all_known_more scene xs more i known some s before is test =
    before ∙ ap (λ (t : Option Sort). known && all_known (t ∷ sorts_of_items scene more)) (sym is) ∙ ap (λ (b : Bool). known && b) (known_more s (sorts_of_items scene more))
    ∙ ap (λ (b : Bool). known && (b && all_known (sorts_of_items scene more))) (sym test) ∙ and_apart known some (all_known (sorts_of_items scene more))

pub items_more : (scene : Scene) (xs more : List Item) (i : Item) (start f g : Option Refusal) → first_in start (all_items scene xs) ≡ first_in f (all_items scene (i ∷ more)) → g ≡ first_in f (item scene i) → first_in start (all_items scene xs) ≡ first_in g (all_items scene more)
items_more scene xs more i start f g before is = before ∙ first_rest (item scene i) (all_items scene more) f g is

pub atoms_known_more : (scene : Scene) (xs more : List MaskItem) (i : MaskItem) (known found : Bool) → is_known (names_in_mask scene xs) ≡ (known && is_known (names_in_mask scene (i ∷ more))) → found ≡ is_known (names_in_atom scene i.atom) → is_known (names_in_mask scene xs) ≡ ((known && found) && is_known (names_in_mask scene more))
atoms_known_more scene xs more i known found before is =
    before ∙ ap (λ (b : Bool). known && b) (known_append (names_in_atom scene i.atom) (names_in_mask scene more)) ∙ ap (λ (b : Bool). known && (b && is_known (names_in_mask scene more))) (sym is) ∙ and_apart known found (is_known (names_in_mask scene more))

pub atoms_more : (scene : Scene) (xs more : List MaskItem) (i : MaskItem) (start f g : Option Refusal) → first_in start (all_atoms scene xs) ≡ first_in f (all_atoms scene (i ∷ more)) → g ≡ first_in f (atom scene i.atom) → first_in start (all_atoms scene xs) ≡ first_in g (all_atoms scene more)
atoms_more scene xs more i start f g before is = before ∙ first_rest (atom scene i.atom) (all_atoms scene more) f g is
