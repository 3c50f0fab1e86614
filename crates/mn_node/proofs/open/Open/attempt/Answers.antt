use Rattle.std.proofs.Common.{refl}
use Rattle.mn_node.specs.declared.command.Command.TheVariants.{Put, Get, CreateTable, DeleteTable, Tables, TableInfo, SyncLog, Stop, Begin, Write, Delete, DeleteObject, Read, MatchObject, AllKeys, Commit, Abort}
use Rattle.mn_node.proofs.Acts.{tries_asked}
use Rattle.mn_node.proofs.Owed.{untried}
use Rattle.mn_node.proofs.TxnKept.{pends_asked, out_kept, out_halted, untouched, transacted, no_file, plain_told}
use Rattle.mn_node.proofs.open.Open.attempt.Goals as goal

pub returns-in-Put-clause-tries : goal.returns-in-Put-clause-tries
returns-in-Put-clause-tries g c told commits synced pending shown pends =
    tries_asked pending c.args.command (Put c.in-Put.table c.in-Put.row) c.in-Put.is
    (c.put.ensures.tries told commits synced pending shown pends)

pub returns-in-Get-clause-tries : goal.returns-in-Get-clause-tries
returns-in-Get-clause-tries g c told commits synced pending shown pends =
    tries_asked pending c.args.command (Get c.in-Get.table c.in-Get.key) c.in-Get.is
    (c.get.ensures.tries (g.D.Disk.past c.args.disk.now) commits synced pending shown pends)

pub returns-in-CreateTable-clause-tries : goal.returns-in-CreateTable-clause-tries
returns-in-CreateTable-clause-tries g c told commits synced pending shown pends =
    tries_asked pending c.args.command (CreateTable c.in-CreateTable.name c.in-CreateTable.read) c.in-CreateTable.is
    (c.create.ensures.tries told commits synced pending shown pends)

pub returns-in-DeleteTable-clause-tries : goal.returns-in-DeleteTable-clause-tries
returns-in-DeleteTable-clause-tries g c told commits synced pending shown pends =
    tries_asked pending c.args.command (DeleteTable c.in-DeleteTable.name) c.in-DeleteTable.is
    (c.delete.ensures.tries told commits synced pending shown pends)

pub returns-in-Tables-clause-tries : goal.returns-in-Tables-clause-tries
returns-in-Tables-clause-tries g c told commits synced pending shown pends =
    tries_asked pending c.args.command Tables c.in-Tables.is (c.names.ensures.tries (g.D.Disk.past c.args.disk.now) commits synced pending
    shown pends)

pub returns-in-TableInfo-clause-tries : goal.returns-in-TableInfo-clause-tries
returns-in-TableInfo-clause-tries g c told commits synced pending shown pends =
    tries_asked pending c.args.command (TableInfo c.in-TableInfo.name) c.in-TableInfo.is
    (c.info.ensures.tries (g.D.Disk.past c.args.disk.now) commits synced pending shown pends)

pub returns-in-SyncLog-clause-tries : goal.returns-in-SyncLog-clause-tries
returns-in-SyncLog-clause-tries g c told commits synced pending shown pends =
    tries_asked pending c.args.command SyncLog c.in-SyncLog.is (c.settle.ensures.tries told commits synced pending shown pends)

pub returns-in-Stop-clause-tries : goal.returns-in-Stop-clause-tries
returns-in-Stop-clause-tries g c told commits synced pending shown pends =
    tries_asked pending c.args.command Stop c.in-Stop.is (c.close.ensures.tries told commits synced pending shown pends)

pub returns-in-Get-clause-owes : goal.returns-in-Get-clause-owes
returns-in-Get-clause-owes g c =
    untried g.D.Disk c.args.disk.now c.args.self.now.log c.args.self.now.log c.get.result refl c.requires.log c.get.ensures.none
    c.get.ensures.plain

pub returns-in-Tables-clause-owes : goal.returns-in-Tables-clause-owes
returns-in-Tables-clause-owes g c =
    untried g.D.Disk c.args.disk.now c.args.self.now.log c.args.self.now.log c.names.result refl c.requires.log c.names.ensures.none
    c.names.ensures.plain

pub returns-in-TableInfo-clause-owes : goal.returns-in-TableInfo-clause-owes
returns-in-TableInfo-clause-owes g c =
    untried g.D.Disk c.args.disk.now c.args.self.now.log c.args.self.now.log c.info.result refl c.requires.log c.info.ensures.none
    c.info.ensures.plain

pub returns-in-Begin-clause-tries : goal.returns-in-Begin-clause-tries
returns-in-Begin-clause-tries g c told commits synced pending shown pends =
    tries_asked pending c.args.command (Begin c.in-Begin.name) c.in-Begin.is (transacted c.begin.ensures pending shown pends)

pub returns-in-Begin-clause-pends : goal.returns-in-Begin-clause-pends
returns-in-Begin-clause-pends g c pending pends =
    pends_asked c.begin.result c.args.self.now c.begin.new.self pending c.args.command (Begin c.in-Begin.name) c.in-Begin.is
    (c.begin.ensures.pends pending pends)

pub returns-in-Begin-clause-owes : goal.returns-in-Begin-clause-owes
returns-in-Begin-clause-owes g c =
    untried g.D.Disk c.args.disk.now c.args.self.now.log c.begin.new.self.log c.begin.result c.begin.ensures.log c.requires.log
    (no_file c.begin.ensures c.requires.pending) (plain_told c.begin.ensures c.requires.pending)

pub returns-in-Write-clause-tries : goal.returns-in-Write-clause-tries
returns-in-Write-clause-tries g c told commits synced pending shown pends =
    tries_asked pending c.args.command (Write c.in-Write.name c.in-Write.table c.in-Write.row) c.in-Write.is
    (transacted c.write.ensures pending shown pends)

pub returns-in-Write-clause-pends : goal.returns-in-Write-clause-pends
returns-in-Write-clause-pends g c pending pends =
    pends_asked c.write.result c.args.self.now c.write.new.self pending c.args.command
    (Write c.in-Write.name c.in-Write.table c.in-Write.row) c.in-Write.is
    (c.write.ensures.pends pending pends)

pub returns-in-Write-clause-owes : goal.returns-in-Write-clause-owes
returns-in-Write-clause-owes g c =
    untried g.D.Disk c.args.disk.now c.args.self.now.log c.write.new.self.log c.write.result c.write.ensures.log c.requires.log
    (no_file c.write.ensures c.requires.pending) (plain_told c.write.ensures c.requires.pending)

pub returns-in-Delete-clause-tries : goal.returns-in-Delete-clause-tries
returns-in-Delete-clause-tries g c told commits synced pending shown pends =
    tries_asked pending c.args.command (Delete c.in-Delete.name c.in-Delete.table c.in-Delete.key) c.in-Delete.is
    (transacted c.delete_key.ensures pending shown pends)

pub returns-in-Delete-clause-pends : goal.returns-in-Delete-clause-pends
returns-in-Delete-clause-pends g c pending pends =
    pends_asked c.delete_key.result c.args.self.now c.delete_key.new.self pending c.args.command
    (Delete c.in-Delete.name c.in-Delete.table c.in-Delete.key) c.in-Delete.is
    (c.delete_key.ensures.pends pending pends)

pub returns-in-Delete-clause-owes : goal.returns-in-Delete-clause-owes
returns-in-Delete-clause-owes g c =
    untried g.D.Disk c.args.disk.now c.args.self.now.log c.delete_key.new.self.log c.delete_key.result c.delete_key.ensures.log
    c.requires.log
    (no_file c.delete_key.ensures c.requires.pending) (plain_told c.delete_key.ensures c.requires.pending)

pub returns-in-DeleteObject-clause-tries : goal.returns-in-DeleteObject-clause-tries
returns-in-DeleteObject-clause-tries g c told commits synced pending shown pends =
    tries_asked pending c.args.command (DeleteObject c.in-DeleteObject.name c.in-DeleteObject.table c.in-DeleteObject.row)
    c.in-DeleteObject.is (transacted c.delete_object.ensures pending shown pends)

pub returns-in-DeleteObject-clause-pends : goal.returns-in-DeleteObject-clause-pends
returns-in-DeleteObject-clause-pends g c pending pends =
    pends_asked c.delete_object.result c.args.self.now c.delete_object.new.self pending c.args.command
    (DeleteObject c.in-DeleteObject.name c.in-DeleteObject.table c.in-DeleteObject.row) c.in-DeleteObject.is
    (c.delete_object.ensures.pends pending pends)

pub returns-in-DeleteObject-clause-owes : goal.returns-in-DeleteObject-clause-owes
returns-in-DeleteObject-clause-owes g c =
    untried g.D.Disk c.args.disk.now c.args.self.now.log c.delete_object.new.self.log c.delete_object.result c.delete_object.ensures.log
    c.requires.log
    (no_file c.delete_object.ensures c.requires.pending) (plain_told c.delete_object.ensures c.requires.pending)

pub returns-in-Read-clause-tries : goal.returns-in-Read-clause-tries
returns-in-Read-clause-tries g c told commits synced pending shown pends =
    tries_asked pending c.args.command (Read c.in-Read.name c.in-Read.table c.in-Read.key) c.in-Read.is
    (transacted c.read.ensures pending shown pends)

pub returns-in-Read-clause-pends : goal.returns-in-Read-clause-pends
returns-in-Read-clause-pends g c pending pends =
    pends_asked c.read.result c.args.self.now c.read.new.self pending c.args.command (Read c.in-Read.name c.in-Read.table c.in-Read.key)
    c.in-Read.is
    (c.read.ensures.pends pending pends)

pub returns-in-Read-clause-owes : goal.returns-in-Read-clause-owes
returns-in-Read-clause-owes g c =
    untried g.D.Disk c.args.disk.now c.args.self.now.log c.read.new.self.log c.read.result c.read.ensures.log c.requires.log
    (no_file c.read.ensures c.requires.pending) (plain_told c.read.ensures c.requires.pending)

pub returns-in-MatchObject-clause-tries : goal.returns-in-MatchObject-clause-tries
returns-in-MatchObject-clause-tries g c told commits synced pending shown pends =
    tries_asked pending c.args.command (MatchObject c.in-MatchObject.name c.in-MatchObject.table c.in-MatchObject.pattern)
    c.in-MatchObject.is (transacted c.match_object.ensures pending shown pends)

pub returns-in-MatchObject-clause-pends : goal.returns-in-MatchObject-clause-pends
returns-in-MatchObject-clause-pends g c pending pends =
    pends_asked c.match_object.result c.args.self.now c.match_object.new.self pending c.args.command
    (MatchObject c.in-MatchObject.name c.in-MatchObject.table c.in-MatchObject.pattern) c.in-MatchObject.is
    (c.match_object.ensures.pends pending pends)

pub returns-in-MatchObject-clause-owes : goal.returns-in-MatchObject-clause-owes
returns-in-MatchObject-clause-owes g c =
    untried g.D.Disk c.args.disk.now c.args.self.now.log c.match_object.new.self.log c.match_object.result c.match_object.ensures.log
    c.requires.log
    (no_file c.match_object.ensures c.requires.pending) (plain_told c.match_object.ensures c.requires.pending)

pub returns-in-AllKeys-clause-tries : goal.returns-in-AllKeys-clause-tries
returns-in-AllKeys-clause-tries g c told commits synced pending shown pends =
    tries_asked pending c.args.command (AllKeys c.in-AllKeys.name c.in-AllKeys.table) c.in-AllKeys.is
    (transacted c.all_keys.ensures pending shown pends)

pub returns-in-AllKeys-clause-pends : goal.returns-in-AllKeys-clause-pends
returns-in-AllKeys-clause-pends g c pending pends =
    pends_asked c.all_keys.result c.args.self.now c.all_keys.new.self pending c.args.command (AllKeys c.in-AllKeys.name c.in-AllKeys.table)
    c.in-AllKeys.is
    (c.all_keys.ensures.pends pending pends)

pub returns-in-AllKeys-clause-owes : goal.returns-in-AllKeys-clause-owes
returns-in-AllKeys-clause-owes g c =
    untried g.D.Disk c.args.disk.now c.args.self.now.log c.all_keys.new.self.log c.all_keys.result c.all_keys.ensures.log c.requires.log
    (no_file c.all_keys.ensures c.requires.pending) (plain_told c.all_keys.ensures c.requires.pending)

pub returns-in-Abort-clause-tries : goal.returns-in-Abort-clause-tries
returns-in-Abort-clause-tries g c told commits synced pending shown pends =
    tries_asked pending c.args.command (Abort c.in-Abort.name) c.in-Abort.is (transacted c.abort.ensures pending shown pends)

pub returns-in-Abort-clause-pends : goal.returns-in-Abort-clause-pends
returns-in-Abort-clause-pends g c pending pends =
    pends_asked c.abort.result c.args.self.now c.abort.new.self pending c.args.command (Abort c.in-Abort.name) c.in-Abort.is
    (c.abort.ensures.pends pending pends)

pub returns-in-Abort-clause-owes : goal.returns-in-Abort-clause-owes
returns-in-Abort-clause-owes g c =
    untried g.D.Disk c.args.disk.now c.args.self.now.log c.abort.new.self.log c.abort.result c.abort.ensures.log c.requires.log
    (no_file c.abort.ensures c.requires.pending) (plain_told c.abort.ensures c.requires.pending)

pub returns-in-Commit-clause-tries : goal.returns-in-Commit-clause-tries
returns-in-Commit-clause-tries g c told commits synced pending shown pends =
    tries_asked pending c.args.command (Commit c.in-Commit.name) c.in-Commit.is
    (c.commit_txn.ensures.tries told commits synced pending shown pends)

pub returns-in-Commit-clause-pends : goal.returns-in-Commit-clause-pends
returns-in-Commit-clause-pends g c pending pends =
    pends_asked c.commit_txn.result c.args.self.now c.commit_txn.new.self pending c.args.command (Commit c.in-Commit.name) c.in-Commit.is
    (c.commit_txn.ensures.pends pending pends)

pub returns-in-Put-clause-pends : goal.returns-in-Put-clause-pends
returns-in-Put-clause-pends g c pending pends =
    pends_asked c.put.result c.args.self.now c.put.new.self pending c.args.command (Put c.in-Put.table c.in-Put.row) c.in-Put.is
    (c.put.ensures.pends pending pends)

pub returns-in-CreateTable-clause-pends : goal.returns-in-CreateTable-clause-pends
returns-in-CreateTable-clause-pends g c pending pends =
    pends_asked c.create.result c.args.self.now c.create.new.self pending c.args.command
    (CreateTable c.in-CreateTable.name c.in-CreateTable.read) c.in-CreateTable.is
    (c.create.ensures.pends pending pends)

pub returns-in-DeleteTable-clause-pends : goal.returns-in-DeleteTable-clause-pends
returns-in-DeleteTable-clause-pends g c pending pends =
    pends_asked c.delete.result c.args.self.now c.delete.new.self pending c.args.command (DeleteTable c.in-DeleteTable.name)
    c.in-DeleteTable.is
    (c.delete.ensures.pends pending pends)

pub returns-in-Get-clause-pends : goal.returns-in-Get-clause-pends
returns-in-Get-clause-pends g c pending pends =
    pends_asked c.get.result c.args.self.now c.args.self.now pending c.args.command (Get c.in-Get.table c.in-Get.key) c.in-Get.is
    (out_kept c.get.result c.args.self.now pending pends)

pub returns-in-Tables-clause-pends : goal.returns-in-Tables-clause-pends
returns-in-Tables-clause-pends g c pending pends =
    pends_asked c.names.result c.args.self.now c.args.self.now pending c.args.command Tables c.in-Tables.is
    (out_kept c.names.result c.args.self.now pending pends)

pub returns-in-TableInfo-clause-pends : goal.returns-in-TableInfo-clause-pends
returns-in-TableInfo-clause-pends g c pending pends =
    pends_asked c.info.result c.args.self.now c.args.self.now pending c.args.command (TableInfo c.in-TableInfo.name) c.in-TableInfo.is
    (out_kept c.info.result c.args.self.now pending pends)

pub returns-in-SyncLog-clause-pends : goal.returns-in-SyncLog-clause-pends
returns-in-SyncLog-clause-pends g c pending pends =
    pends_asked c.settle.result c.args.self.now c.settle.new.self pending c.args.command SyncLog c.in-SyncLog.is
    (out_kept c.settle.result c.settle.new.self pending (untouched pends c.settle.new.self c.settle.ensures.kept))

pub returns-in-Stop-clause-pends : goal.returns-in-Stop-clause-pends
returns-in-Stop-clause-pends g c pending pends =
    pends_asked c.close.result c.args.self.now c.close.new.self pending c.args.command Stop c.in-Stop.is
    (out_halted c.close.result c.close.new.self pending c.close.ensures.halts (untouched pends c.close.new.self c.close.ensures.kept))
