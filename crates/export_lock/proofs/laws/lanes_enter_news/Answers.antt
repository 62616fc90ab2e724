use Rattle.export_lock.proofs.News.{flush_is_news, send_is_news}
use Rattle.export_lock.proofs.laws.lanes_enter_news.Goals as goal

pub returns-clause-sends : goal.returns-clause-sends
returns-clause-sends g c = send_is_news c.a_port_alone_changes_its_sources.ensures g.J.Judge.verdict

pub returns-clause-withdraws : goal.returns-clause-withdraws
returns-clause-withdraws g c = flush_is_news c.a_port_alone_changes_its_sources.ensures g.J.Judge.verdict
