use Rattle.std.proofs.Common.{refl}
use Rattle.conf_options.specs.Kinds as kinds
use Rattle.conf_options.specs.Kinds.{pipe_kind}
use Rattle.conf_options.specs.Options.{no_pipe_options, with_pipe_option}
use Rattle.conf_options.proofs.Apart.{pipe_table, pipe_peer, pipe_import, pipe_export}
use Rattle.conf_options.proofs.Folds.{none_is_none}
use Rattle.conf_options.proofs.laws.a_pipe_has_no_more_than_is_written.Goals as goal

pub returns-clause-table : goal.returns-clause-table
returns-clause-table c = none_is_none with_pipe_option pipe_kind kinds.TableOfPipe (λ o. o.table) pipe_table no_pipe_options refl

pub returns-clause-peer : goal.returns-clause-peer
returns-clause-peer c = none_is_none with_pipe_option pipe_kind kinds.PeerOfPipe (λ o. o.peer) pipe_peer no_pipe_options refl

pub returns-clause-import : goal.returns-clause-import
returns-clause-import c = none_is_none with_pipe_option pipe_kind kinds.ImportOfPipe (λ o. o.import) pipe_import no_pipe_options refl

pub returns-clause-export : goal.returns-clause-export
returns-clause-export c = none_is_none with_pipe_option pipe_kind kinds.ExportOfPipe (λ o. o.export) pipe_export no_pipe_options refl
