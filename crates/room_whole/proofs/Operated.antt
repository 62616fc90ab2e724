-- What is printed of a member's operations: who asked for each, and what it did.
use Rattle.std.proofs.Common.{◌≡◌, ℕ, List, [], ◌∷◌, ◌++◌, map, reverse, refl, sym, ap, ◌∙◌}
use Rattle.std.proofs.lemmas.List.{map-append, reverse-append, reverse-reverse}
use mathlib.Core.List.{map-map}
use Rattle.import_core.specs.declared.operation.Op.{Op}
use Rattle.import_core.specs.declared.step.Done.{Done}
use Rattle.jour_rule.specs.declared.views.Entry.{Entry}
use Rattle.core_machine.specs.Lines.{Line, Turn, ops_of}
use Rattle.core_machine.specs.Rules.{Rules}
use Rattle.core_setup.specs.Protocols.{rules_of}
use Rattle.core_setup.specs.Reports.{dones}
use Rattle.phase_legal.specs.Turns.{line_at, place_of, told, turn_in, turns_told}
use Rattle.import_lock.specs.Terms.{PhaseTerms}
use Rattle.import_lock.specs.declared.state.OpRecord.{OpRecord}
use Rattle.room_ends.specs.Prints.{PrintsOps, done_of, turn_of_record}
use Rattle.room_whole.proofs.Chosen.{all_of, printed, turns_of}
use Rattle.room_whole.proofs.Given.{Given, lines_of, phase_of, rules_in, setup_of}

dones_ops : (rules : Rules) (number : ℕ) (past ops : List Op) → map (λ (d : Done). d.op) (dones rules number past ops) ≡ ops
dones_ops rules number past [] = refl
dones_ops rules number past (op ∷ ops) = ap (λ l. op ∷ l) (dones_ops rules number past ops)

map_reverse : {A B : Type 0} (f : A → B) (xs : List A) → map f (reverse xs) ≡ reverse (map f xs)
map_reverse f [] = refl
map_reverse f (x ∷ xs) =
    ap (map f) (reverse-append (x ∷ []) xs)
    ∙ map-append f (reverse xs) (x ∷ [])
    ∙ ap (λ l. l ++ f x ∷ []) (map_reverse f xs)
    ∙ sym (reverse-append (f x ∷ []) (map f xs))

same_dones : (xs ys : List Done) → map (λ (d : Done). d.op) xs ≡ map (λ (d : Done). d.op) ys → map (λ (d : Done). d.over) xs ≡ map (λ (d : Done). d.over) ys → xs ≡ ys
same_dones [] [] ops overs = refl
same_dones [] (y ∷ ys) ops overs = absurd (let bad : [] ≡ y.op ∷ map (λ (d : Done). d.op) ys = ops in cc)
same_dones (x ∷ xs) [] ops overs = absurd (let bad : x.op ∷ map (λ (d : Done). d.op) xs ≡ [] = ops in cc)
same_dones (x ∷ xs) (y ∷ ys) ops overs =
    let whole : x.op ∷ map (λ (d : Done). d.op) xs ≡ y.op ∷ map (λ (d : Done). d.op) ys = ops in
    let also : x.over ∷ map (λ (d : Done). d.over) xs ≡ y.over ∷ map (λ (d : Done). d.over) ys = overs in
    let op : x.op ≡ y.op = cc whole in
    let over : x.over ≡ y.over = cc also in
    let first : x ≡ y = λ i. record { op = op i; over = over i } in
    let rest : xs ≡ ys = same_dones xs ys (cc whole) (cc also) in
    λ i. first i ∷ rest i

module _ (lines : List Line) (rules : Rules) (number : ℕ) (past : List Op) (list : List Entry) (ops : List OpRecord) (places : map (λ (r : OpRecord). r.line) ops ≡ map place_of list)
    (overs : map (λ (r : OpRecord). r.over) ops ≡ reverse (map (λ (d : Done). d.over) (dones rules number past (ops_of (turns_told lines list))))) where
  abbrev done_all : List Done
  done_all = dones rules number past (ops_of (turns_told lines list))

  abbrev turn_at : ℕ → Turn
  turn_at place = turn_in (line_at lines place)

  told_same : map (told lines) list ≡ map (turn_of_record lines) ops
  told_same =
      sym (map-map turn_at place_of list) ∙ ap (map turn_at) (sym places)
      ∙ map-map turn_at (λ (r : OpRecord). r.line) ops

  pub prints_turns : turns_told lines list ≡ reverse (map (turn_of_record lines) ops)
  prints_turns = ap reverse told_same

  ops_same : map (λ (d : Done). d.op) (reverse done_all) ≡ map (λ (d : Done). d.op) (map (done_of lines) ops)
  ops_same =
      map_reverse (λ (d : Done). d.op) done_all
      ∙ ap reverse (dones_ops rules number past (ops_of (turns_told lines list)))
      ∙ ap reverse (map_reverse (λ (t : Turn). t.op) (map (told lines) list))
      ∙ reverse-reverse (map (λ (t : Turn). t.op) (map (told lines) list))
      ∙ ap (map (λ (t : Turn). t.op)) told_same
      ∙ map-map (λ (t : Turn). t.op) (turn_of_record lines) ops
      ∙ sym (map-map (λ (d : Done). d.op) (done_of lines) ops)

  overs_same : map (λ (d : Done). d.over) (reverse done_all) ≡ map (λ (d : Done). d.over) (map (done_of lines) ops)
  overs_same = map_reverse (λ (d : Done). d.over) done_all ∙ sym overs ∙ sym (map-map (λ (d : Done). d.over) (done_of lines) ops)

  pub prints_dones : reverse done_all ≡ map (done_of lines) ops
  prints_dones = same_dones (reverse done_all) (map (done_of lines) ops) ops_same overs_same

-- ---- of a member, by the phase and the number that its lock has

module _ {J P : Type 0} (g : Given J P) (i : ℕ) (list : List Entry) (told_is : (printed g).ops i ≡ turns_told (lines_of g) list) (phase : PhaseTerms) (phase_is : phase ≡ phase_of g) (number : ℕ) (number_is : number ≡ i) where
  past_was : ops_of (phase.past number) ≡ ops_of (g.past.ops i)
  past_was = (λ j. ops_of ((phase_is j).past (number_is j))) ∙ ap (λ (f : ℕ → List Turn). ops_of (f i)) g.same_past

  told_was : ops_of (turns_told phase.lines list) ≡ ops_of (turns_of g i)
  told_was = ap (λ (z : PhaseTerms). ops_of (turns_told z.lines list)) phase_is ∙ ap ops_of (sym told_is)

  -- all its operations are those of the phase behind those before it
  pub ops_here : ops_of (turns_told phase.lines list) ++ ops_of (phase.past number) ≡ ops_of ((all_of g).ops i)
  ops_here = (λ j. told_was j ++ past_was j) ∙ sym (map-append (λ (t : Turn). t.op) (turns_of g i) (g.past.ops i))

  module _ (ops : List OpRecord) (places : map (λ (r : OpRecord). r.line) ops ≡ map place_of list)
      (overs : map (λ (r : OpRecord). r.over) ops ≡ reverse (map (λ (d : Done). d.over) (dones (rules_of phase.setup) number (ops_of (phase.past number)) (ops_of (turns_told phase.lines list))))) where
    overs_here : map (λ (r : OpRecord). r.over) ops ≡ reverse (map (λ (d : Done). d.over) (dones (rules_in g) i (ops_of (g.past.ops i)) (ops_of (turns_told (lines_of g) list))))
    overs_here =
        overs
        ∙ (λ j. reverse (map (λ (d : Done). d.over) (dones (rules_of (phase_is j).setup) (number_is j) (past_was j) (ops_of (turns_told (phase_is j).lines list)))))

    pub prints_ops : PrintsOps (setup_of g) (lines_of g) g.past (printed g) i ops
    prints_ops = record {
      dones =
          ap (λ (l : List Turn). reverse (dones (rules_in g) i (ops_of (g.past.ops i)) (ops_of l))) told_is
          ∙ prints_dones (lines_of g) (rules_in g) i (ops_of (g.past.ops i)) list ops places overs_here;
      turns = told_is ∙ prints_turns (lines_of g) (rules_in g) i (ops_of (g.past.ops i)) list ops places overs_here;
    }
