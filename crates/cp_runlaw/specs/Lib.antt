pub mod SynchronizedRuns
