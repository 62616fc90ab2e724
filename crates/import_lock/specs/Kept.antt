-- What an import lock keeps of its value (`IsImports`): the importer is the protocol's behind its
-- operations, which are those that its turns tell; what they give is what the port has made and
-- then what waits; nothing waits whenever the lock is free; and the stamp has marked what they
-- signal.
-- Lists of operations are read backwards; records, changes, entries and receipts are in their order.
-- Not modelled: what stands behind a fault of memory, at which an importer may be lost.
-- From: own.
-- Example: behind `add` of a new net the turns have one entry more, and so have the port's
-- receipts.
use Rattle.std.specs.Prelude.{◌≡◌, ◌≤◌, ℕ, List, [], ◌++◌, drop, length, map, reverse, Option, Some, None, IfSome, option_map, ⊤}
use Rattle.std.specs.List.{AllByRecursion}
use Rattle.atomic_table.specs.Seated.{TableId}
use Rattle.attrs.specs.declared.judge.Verdict.{Verdict}
use Rattle.attrs.specs.declared.route.Change.{Change}
use Rattle.attrs.specs.declared.route.Route.{Route}
use Rattle.bits_ip.specs.Prefix.{Net}
use Rattle.export_core.specs.declared.log.LogItem.{LogItem}
use Rattle.import_core.specs.Importers.{Importing}
use Rattle.import_core.specs.declared.operation.Op.{Op}
use Rattle.jour_rule.specs.declared.views.View.{View as Seat}
use Rattle.jour.specs.Seats.{front, head_of, journal, number_of, own}
use Rattle.core_setup.specs.Announced.{IsOfFamily}
use Rattle.core_setup.specs.Protocols.{imports_after}
use Rattle.core_setup.specs.Reports.{dones}
use Rattle.core_setup.specs.Setup.{Source}
use Rattle.phase_legal.specs.Changes.{AreMade, changes_in, given}
use Rattle.phase_legal.specs.Stamps.{AreFrom, AreStamps, AreUpTo, item_in, notices_from}
use Rattle.phase_legal.specs.Turns.{AreByHands, place_of, words_in}
use Rattle.import_lock.specs.Terms.{AreTerms, ImportTerms, ops_told, past_ops, rules_in}
use Rattle.import_lock.specs.declared.state.ImportState.{ImportState}
use Rattle.import_lock.specs.declared.state.OpFault.{OpFault}
use Rattle.import_lock.specs.declared.state.OpFault.TheVariants.{Ended, Memory}

-- the changes that wait
abbrev pub left : {J : Type 0} → ImportState J → List Change
left state = drop state.sent state.backlog

-- the items that a stamp has marked, the newest first
abbrev pub items_of_stamp : TableId × Seat ℕ → List LogItem
items_of_stamp stamp = reverse (map item_in (words_in (own stamp.1)))

-- it holds, unless memory was wanted
abbrev pub IsUnlessLost : Option OpFault → Type 0 → Type 0
IsUnlessLost None P = P
IsUnlessLost (Some (Ended head)) P = P
IsUnlessLost (Some Memory) P = ⊤

module _ {J : Type 0} (verdict : J → Net → Route → Verdict) where
  -- the importer is the protocol's behind these operations
  pub record IsImporter (source : Source) (ops : List Op) (held : Importing J) : Type 0 where
    pub spec : held.spec ≡ source.spec
    pub judge : verdict held.judge ≡ source.filter
    pub imports : held.imports ≡ imports_after source ops

  -- The value is the lock's, and its port has made these changes.
  pub record IsImporting (key : ImportTerms) (made : List (ℕ × Change)) (state : ImportState J)
      : Type 0 where
    pub source : Source
    pub terms : AreTerms key source
    pub importer :
        IsImporter source (ops_told key (front state.turns.1) ++ past_ops key) state.importer
    pub port : journal state.port ≡ key.port
    pub port_number : number_of state.port.1.role ≡ key.port_number
    pub turns : journal state.turns ≡ key.turns
    pub marks : option_map journal state.stamp ≡ key.marks
    -- its operations are those of its turns, each recorded by the hand of its line
    pub hands : AreByHands key.phase.lines key.phase.starter (front state.turns.1)
    pub lines : map (λ r. r.line) state.ops.items ≡ map place_of (front state.turns.1)
    pub over :
        map (λ r. r.over) state.ops.items
        ≡ reverse (map (λ d. d.over) (dones (rules_in key) key.number (past_ops key)
        (ops_told key (front state.turns.1))))
    pub family :
        AllByRecursion (IsOfFamily key.port.1.opening.family)
        (ops_told key (front state.turns.1))
    -- what they give is what the port has made, and then what waits
    pub says : AreMade (own state.port.1) made
    pub sent :
        changes_in made ++ left state
        ≡ reverse (given (rules_in key) key.number (past_ops key)
        (ops_told key (front state.turns.1)))

  -- The stamp has marked what these operations signal, and no up stands above what the port has
  -- seen.
  pub record IsStamped
      (key : ImportTerms) (made : List (ℕ × Change)) (ops : List Op) (state : ImportState J)
      (stamp : TableId × Seat ℕ) : Type 0 where
    pub number : number_of stamp.1.role ≡ 0
    pub are :
        AreStamps (rules_in key) key.number (past_ops key) None made (items_of_stamp stamp)
        (notices_from (rules_in key) key.number (past_ops key) ops)
    pub seen : AreUpTo (head_of state.port.1) (items_of_stamp stamp)
    pub behind : AreFrom key.port.1.start (items_of_stamp stamp)

  -- its stamp has, where the protocol has a channel
  abbrev pub AreStamped :
      ImportTerms → List (ℕ × Change) → List Op → ImportState J → Type 0
  AreStamped key made ops state = IfSome state.stamp (IsStamped key made ops state)

  -- the stamp is behind at most by the last of the operations
  pub record AreStampedSoFar
      (key : ImportTerms) (made : List (ℕ × Change)) (state : ImportState J) : Type 0 where
    pub late : List Op
    pub before : List Op
    pub few : length late ≤ 1
    pub all : ops_told key (front state.turns.1) ≡ late ++ before
    pub stamped : AreStamped key made before state

  -- Whenever the lock is free nothing waits and all is marked, unless there was a fault.
  pub record IsFree (key : ImportTerms) (made : List (ℕ × Change)) (state : ImportState J)
      : Type 0 where
    pub importing : IsImporting key made state
    pub rest : state.fault ≡ None → left state ≡ []
    pub stamped : state.fault ≡ None → AreStamped key made (ops_told key (front state.turns.1)) state
    pub so_far : AreStampedSoFar key made state

  abbrev pub IsImports : ImportTerms → ImportState J → Type 0
  IsImports key state =
      IsUnlessLost state.fault ((made : List (ℕ × Change)) × IsFree key made state)
