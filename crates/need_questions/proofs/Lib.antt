mod NeedsAnswered
mod NeedsKeptOn
