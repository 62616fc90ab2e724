-- What a lock keeps is kept as the list of its turns is told to a hand.
use Rattle.std.proofs.Common.{◌≡◌, ℕ, List, ◌++◌, [], length, map, reverse, Option, Some, None, sym, subst, ◌∙◌}
use Rattle.std.specs.Prelude.{IfSome}
use Rattle.std.specs.List.{AllByRecursion}
use Rattle.atomic_table.specs.Seated.{TableId}
use Rattle.attrs.specs.declared.judge.Verdict.{Verdict}
use Rattle.attrs.specs.declared.route.Change.{Change}
use Rattle.attrs.specs.declared.route.Route.{Route}
use Rattle.bits_ip.specs.Prefix.{Net}
use Rattle.core_setup.specs.Announced.{IsOfFamily}
use Rattle.core_setup.specs.Protocols.{pipe_is_up}
use Rattle.core_setup.specs.Reports.{dones}
use Rattle.import_core.specs.declared.operation.Op.{Op}
use Rattle.import_lock.specs.Kept.{AreStamped, AreStampedSoFar, IsFree, IsImporter, IsImporting, IsImports, IsStamped, IsUnlessLost, left}
use Rattle.import_lock.specs.Terms.{ImportTerms, ops_told, past_ops, rules_in}
use Rattle.import_lock.specs.declared.state.ImportState.{ImportState}
use Rattle.jour_rule.specs.declared.views.Entry.{Entry}
use Rattle.jour_rule.specs.declared.views.View.{View as Seat}
use Rattle.jour.specs.Seats.{front, journal}
use Rattle.phase_legal.specs.Changes.{changes_in, given}
use Rattle.phase_legal.specs.Turns.{AreByHands, place_of}
use Rattle.phase_room.proofs.Dues.{fresh}
use Rattle.pipe_lock.specs.Kept as pipes
use Rattle.pipe_lock.specs.Terms as pipe
use Rattle.pipe_lock.specs.declared.state.PipeState.{PipeState}

-- ---- a protocol with routes of its own

abbrev pub with_turns : {J : Type 0} → ImportState J → TableId × Seat ℕ → ImportState J
with_turns state turns = record {
  importer = state.importer;
  port = state.port;
  ops = state.ops;
  backlog = state.backlog;
  sent = state.sent;
  turns = turns;
  stamp = state.stamp;
  fault = state.fault;
}

module _ {J : Type 0} (verdict : J → Net → Route → Verdict) (key : ImportTerms) (state : ImportState J) (turns : TableId × Seat ℕ) (here : journal turns ≡ journal state.turns) (same : front turns.1 ≡ front state.turns.1) where
  pub importing_kept : (made : List (ℕ × Change)) → IsImporting verdict key made state → IsImporting verdict key made (with_turns state turns)
  importing_kept made is = record {
    source = is.source;
    terms = is.terms;
    importer = subst (λ z. IsImporter verdict is.source (ops_told key z ++ past_ops key) state.importer) (sym same) is.importer;
    port = is.port;
    port_number = is.port_number;
    turns = here ∙ is.turns;
    marks = is.marks;
    hands = subst (AreByHands key.phase.lines key.phase.starter) (sym same) is.hands;
    lines = subst (λ (z : List Entry). map (λ r. r.line) state.ops.items ≡ map place_of z) (sym same) is.lines;
    over = subst (λ (z : List Entry). map (λ r. r.over) state.ops.items ≡ reverse (map (λ d. d.over) (dones (rules_in key) key.number (past_ops key) (ops_told key z)))) (sym same) is.over;
    family = subst (λ (z : List Entry). AllByRecursion (IsOfFamily key.port.1.opening.family) (ops_told key z)) (sym same) is.family;
    says = is.says;
    sent = subst (λ (z : List Entry). changes_in made ++ left state ≡ reverse (given (rules_in key) key.number (past_ops key) (ops_told key z))) (sym same) is.sent;
  }

  stamped_in : (made : List (ℕ × Change)) (ops : List Op) (stamp : Option (TableId × Seat ℕ)) → IfSome stamp (IsStamped verdict key made ops state) → IfSome stamp (IsStamped verdict key made ops (with_turns state turns))
  stamped_in made ops None is = tt
  stamped_in made ops (Some stamp) is = record { number = is.number; are = is.are; seen = is.seen; behind = is.behind }

  stamped_kept : (made : List (ℕ × Change)) (ops : List Op) → AreStamped verdict key made ops state → AreStamped verdict key made ops (with_turns state turns)
  stamped_kept made ops is = stamped_in made ops state.stamp is

  free_kept : (made : List (ℕ × Change)) → IsFree verdict key made state → IsFree verdict key made (with_turns state turns)
  free_kept made is = record {
    importing = importing_kept made is.importing;
    rest = is.rest;
    stamped = λ none. subst (λ (z : List Entry). AreStamped verdict key made (ops_told key z) (with_turns state turns)) (sym same) (stamped_kept made (ops_told key (front state.turns.1)) (is.stamped none));
    so_far = record {
      late = is.so_far.late;
      before = is.so_far.before;
      few = is.so_far.few;
      all = subst (λ (z : List Entry). ops_told key z ≡ is.so_far.late ++ is.so_far.before) (sym same) is.so_far.all;
      stamped = stamped_kept made is.so_far.before is.so_far.stamped;
    };
  }

  pub imports_kept : state.fault ≡ None → IsImports verdict key state → IsImports verdict key (with_turns state turns)
  imports_kept none is =
      let free = fresh verdict key state none is in
      subst (λ z. IsUnlessLost z ((made : List (ℕ × Change)) × IsFree verdict key made (with_turns state turns))) (sym none) (free.0, free_kept free.0 free.1)

-- ---- a pipe

abbrev pub with_pipe_turns : PipeState → TableId × Seat ℕ → PipeState
with_pipe_turns state turns = record {
  up = state.up;
  ops = state.ops;
  turns = turns;
  out = state.out;
  back = state.back;
  fault = state.fault;
}

module _ (key : pipe.PipeTerms) (state : PipeState) (turns : TableId × Seat ℕ) (here : journal turns ≡ journal state.turns) (same : front turns.1 ≡ front state.turns.1) where
  pub pipe_kept : pipes.IsFree key state → pipes.IsFree key (with_pipe_turns state turns)
  pipe_kept is = record {
    piping = record {
      terms = is.piping.terms;
      up = subst (λ (z : List Entry). state.up ≡ pipe_is_up (pipe.ops_told key z ++ pipe.past_ops key)) (sym same) is.piping.up;
      turns = here ∙ is.piping.turns;
      out = is.piping.out;
      back = is.piping.back;
      hands = subst (AreByHands key.phase.lines key.phase.starter) (sym same) is.piping.hands;
      lines = subst (λ (z : List Entry). map (λ r. r.line) state.ops.items ≡ map place_of z) (sym same) is.piping.lines;
      over = subst (λ (z : List Entry). map (λ r. r.over) state.ops.items ≡ reverse (map (λ d. d.over) (dones (pipe.rules_in key) key.number (pipe.past_ops key) (pipe.ops_told key z)))) (sym same) is.piping.over;
    };
    marked = λ none.
        let was = is.marked none in
        subst (λ (z : List Entry). pipes.AreMarked key (pipe.ops_told key z) (with_pipe_turns state turns)) (sym same) (record { out = was.out; back = was.back });
    so_far =
        subst (λ (z : List Entry). pipes.AreMarkedSoFar key (pipe.ops_told key z) (with_pipe_turns state turns)) (sym same) (record { out = is.so_far.out; back = is.so_far.back });
  }
