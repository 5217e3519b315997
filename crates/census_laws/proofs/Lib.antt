mod StateCensus
