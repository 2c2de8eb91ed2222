use Rattle.pool.specs.Books.{book_of}
use Rattle.pool.proofs.memory.MemoryNamenodeNamenodeProtocol.get_additional_datanode.Goals as goal

pub returns : goal.returns
returns g c = c.list.ensures (book_of c.args.self.now.book)
